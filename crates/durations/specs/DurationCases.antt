-- Durations worked out.
use Rattle.std.specs.Prelude.{◌≡◌, pos, negsuc, Some, None, codes}
use Rattle.durations.specs.Duration.{duration}

-- one text of each kind; `None` is a text that stays text
pub record WorkedDurations : Type 0 where
  pub hours_with_decimals : duration (codes "1.5h") ≡ Some (pos 5400000000000)
  pub minus_nought : duration (codes "-0") ≡ Some (pos 0)
  pub exact_decimals : duration (codes "1.001us") ≡ Some (pos 1001)
  pub plus_sign : duration (codes "+1s") ≡ Some (pos 1000000000)
  pub cut_toward_zero : duration (codes "-1.9ns") ≡ Some (negsuc 0)
  pub two_amounts : duration (codes "1h30m") ≡ Some (pos 5400000000000)
  pub too_long : duration (codes "2562048h") ≡ None
  pub no_unit : duration (codes "5") ≡ None
  pub no_digit : duration (codes ".") ≡ None
  pub sign_alone : duration (codes "-") ≡ None
