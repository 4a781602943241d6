-- What a duration is: its parts, the text that spells them, and the time that they mean.
use Rattle.std.specs.Prelude.{◌≡◌, ℕ, ◌+◌, ◌*◌, ◌/◌, ◌^◌, ◌<◌, ◌≤◌, List, [], ◌∷◌, ◌++◌, map, length, ℤ, pos, neg_ℤ, Some, codes}
use Rattle.std.specs.Int.Digits.{number_from_digits}
use Rattle.std.specs.List.{AllByRecursion}
use Rattle.durations.specs.Duration.{duration}

-- a unit as it is written: microseconds have an ASCII spelling, one with the micro sign and one with the Greek letter
pub data Suffix : Type 0 where
  hour : Suffix
  minute : Suffix
  second : Suffix
  millisecond : Suffix
  microsecond : Suffix
  micro_sign : Suffix
  greek_mu : Suffix
  nanosecond : Suffix

-- its bytes; U+00B5 and U+03BC have two each
abbrev pub suffix_text : Suffix → List ℕ
suffix_text hour = codes "h"
suffix_text minute = codes "m"
suffix_text second = codes "s"
suffix_text millisecond = codes "ms"
suffix_text microsecond = codes "us"
suffix_text micro_sign = 0xC2 ∷ 0xB5 ∷ codes "s"
suffix_text greek_mu = 0xCE ∷ 0xBC ∷ codes "s"
suffix_text nanosecond = codes "ns"

-- how many nanoseconds a unit has
abbrev pub unit_value : Suffix → ℕ
unit_value hour = 3600 * 10 ^ 9
unit_value minute = 60 * 10 ^ 9
unit_value second = 10 ^ 9
unit_value millisecond = 10 ^ 6
unit_value microsecond = 10 ^ 3
unit_value micro_sign = 10 ^ 3
unit_value greek_mu = 10 ^ 3
unit_value nanosecond = 1

-- digits, each below ten, with no point, or before and behind a point
pub data Number : Type 0 where
  plain : List ℕ → Number
  pointed : List ℕ → List ℕ → Number

-- digits as they are written, 48 being the byte of `0`
abbrev pub digits_text : List ℕ → List ℕ
digits_text ds = map (λ d. 48 + d) ds

-- a number as it is written, 46 being the byte of the point
abbrev pub number_text : Number → List ℕ
number_text (plain ds) = digits_text ds
number_text (pointed ds es) = digits_text ds ++ 46 ∷ digits_text es

-- all the digits of a number
abbrev pub digits : Number → List ℕ
digits (plain ds) = ds
digits (pointed ds es) = ds ++ es

-- how many of them stand behind the point
abbrev pub decimals : Number → ℕ
decimals (plain ds) = 0
decimals (pointed ds es) = length es

-- a number of units
pub record Amount : Type 0 where
  pub numeral : Number
  pub suffix : Suffix

-- the unit stands right behind the number
abbrev pub amount_text : Amount → List ℕ
amount_text a = number_text a.numeral ++ suffix_text a.suffix

-- an amount is exactly so many nanoseconds, over its scale
abbrev pub scaled : Amount → ℕ
scaled a = number_from_digits 10 (digits a.numeral) * unit_value a.suffix

-- ten for each decimal
abbrev pub scale : Amount → ℕ
scale a = 10 ^ decimals a.numeral

-- the whole nanoseconds in an amount, which are what it counts for
abbrev pub whole : Amount → ℕ
whole a = scaled a / scale a

-- amounts are written one after another
abbrev pub amounts_text : List Amount → List ℕ
amounts_text [] = []
amounts_text (a ∷ more) = amount_text a ++ amounts_text more

-- and are summed, each cut to whole nanoseconds
abbrev pub total : List Amount → ℕ
total [] = 0
total (a ∷ more) = whole a + total more

-- behind the sign: `0` alone, or one amount or more
pub data Body : Type 0 where
  nought : Body
  amounts : Amount → List Amount → Body

-- the amounts behind the sign
abbrev pub all_amounts : Body → List Amount
all_amounts nought = []
all_amounts (amounts a more) = a ∷ more

-- their text
abbrev pub body_text : Body → List ℕ
body_text nought = codes "0"
body_text (amounts a more) = amounts_text (a ∷ more)

-- a sign, if one is written
pub data Mark : Type 0 where
  bare : Mark
  plus : Mark
  minus : Mark

-- its text
abbrev pub mark_text : Mark → List ℕ
mark_text bare = []
mark_text plus = codes "+"
mark_text minus = codes "-"

-- n with this sign
abbrev pub marked : Mark → ℕ → ℤ
marked bare n = pos n
marked plus n = pos n
marked minus n = neg_ℤ (pos n)

-- a duration in its parts
pub record Reading : Type 0 where
  pub mark : Mark
  pub body : Body

-- the text that spells it
abbrev pub spell : Reading → List ℕ
spell r = mark_text r.mark ++ body_text r.body

-- its nanoseconds
abbrev pub value : Reading → ℤ
value r = marked r.mark (total (all_amounts r.body))

-- each digit is below ten, and each amount has one
abbrev pub ProperAmount : Amount → Type 0
ProperAmount a = AllByRecursion (λ d. d < 10) (digits a.numeral) × (0 < length (digits a.numeral))

-- a duration that can be written
abbrev pub Proper : Reading → Type 0
Proper r = AllByRecursion ProperAmount (all_amounts r.body)

-- an amount has at most 15 digits
abbrev pub Short : Amount → Type 0
Short a = length (digits a.numeral) ≤ 15

-- within the bounds: the sum is below 2^63, and so is each amount, which is no more than the sum
abbrev pub Within : Reading → Type 0
Within r = AllByRecursion Short (all_amounts r.body) × (total (all_amounts r.body) < 2 ^ 63)

-- s spells a duration within the bounds, of z nanoseconds
pub record Spells (s : List ℕ) (z : ℤ) : Type 0 where
  pub reading : Reading
  pub proper : Proper reading
  pub within : Within reading
  pub text : spell reading ≡ s
  pub means : value reading ≡ z

-- `duration` answers z for just the texts that spell a duration of z nanoseconds, and no text, within the bounds or not, is read in two ways
pub record DurationsRead : Type 0 where
  pub sound : (s : List ℕ) (z : ℤ) → duration s ≡ Some z → Spells s z
  pub complete : (s : List ℕ) (z : ℤ) → Spells s z → duration s ≡ Some z
  pub one_reading : (p q : Reading) → Proper p → Proper q → spell p ≡ spell q → p ≡ q
