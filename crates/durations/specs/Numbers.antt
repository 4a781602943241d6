-- The numbers that a duration is read from, as contracts see them.
use Rattle.std.specs.Prelude.{ℕ}

-- decimal digits: the number that they write, and how many they are
pub record Written : Type 0 where
  pub value : ℕ
  pub count : ℕ

-- `digits` over ten to the power of `decimals`
pub record Decimal : Type 0 where
  pub digits : ℕ
  pub decimals : ℕ
