use Rattle.std.proofs.Common.{◌≡◌, ◌≤◌, length}
use Rattle.durations.specs.Duration.{leading_figures}
use Rattle.durations.proofs.duration.read_figures.Given as goal

abbrev pub invariant-loop-rest : goal.invariant-loop-rest
invariant-loop-rest l = record {
  same : leading_figures l.initial.read l.initial.rest ≡ leading_figures l.read l.rest;
  more : l.initial.read.count ≤ l.read.count;
}

abbrev pub decreases-loop-rest : goal.decreases-loop-rest
decreases-loop-rest l = length l.rest
