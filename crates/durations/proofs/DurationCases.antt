-- The durations worked out hold by computing.
use Rattle.std.proofs.Common.{refl}
use Rattle.durations.specs.Duration.{duration, sum_from}
use Rattle.durations.specs.DurationCases.{WorkedDurations}

pub worked_durations : WorkedDurations
unfolding duration sum_from
worked_durations = record {
  hours_with_decimals = refl;
  minus_nought = refl;
  exact_decimals = refl;
  plus_sign = refl;
  cut_toward_zero = refl;
  two_amounts = refl;
  too_long = refl;
  no_unit = refl;
  no_digit = refl;
  sign_alone = refl;
}
