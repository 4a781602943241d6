use Rattle.std.proofs.Common.{rules}
use Rattle.durations.proofs.DurationSums.{duration_parts}
use Rattle.durations.proofs.duration.parse_go_duration.Goals as goal

pub returns-clause-value : goal.returns-clause-value
returns-clause-value c =
    let e = duration_parts c.args.input.now c.split_sign-sign.result.0 c.split_sign-sign.result.1.now c.split_sign-sign.ensures in
    rw e (search rules)
