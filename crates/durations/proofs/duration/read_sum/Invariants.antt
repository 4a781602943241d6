use Rattle.std.proofs.Common.{◌+◌, ◌^◌, ◌<◌, length}
use Rattle.durations.specs.Duration.{sum_from}
use Rattle.durations.proofs.DurationSums.{Left}
use Rattle.durations.proofs.duration.read_sum.Given as goal

abbrev pub invariant-loop-rest : goal.invariant-loop-rest
invariant-loop-rest l = (l.total < 2 ^ 63) × Left (sum_from (length l.initial.rest + 1) 0 l.initial.rest) l.total l.rest

abbrev pub decreases-loop-rest : goal.decreases-loop-rest
decreases-loop-rest l = length l.rest
