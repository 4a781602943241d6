-- Where the parts of a spelled duration begin.
use Rattle.std.proofs.Common.{◌≡◌, ℕ, ◌+◌, ◌<◌, ◌≤◌, false, eqb, List, [], ◌∷◌, ◌++◌, length, sym, refl, subst, append_assoc, arith, length-append}
use Rattle.std.proofs.lemmas.Bool.{ne_eqb}
use Rattle.std.specs.Char.{is_ascii_digit}
use Rattle.std.specs.List.{AllByRecursion}
use Rattle.durations.specs.DurationGrammar.{Suffix, hour, minute, second, millisecond, microsecond, micro_sign, greek_mu, nanosecond, suffix_text, Number, plain, pointed, digits, digits_text, number_text, Amount, amount_text, amounts_text, Body, nought, amounts, all_amounts, body_text, ProperAmount}

-- no digit goes on
abbrev pub BehindDigits : List ℕ → Type 0
BehindDigits [] = Unit {0}
BehindDigits (b ∷ s) = is_ascii_digit b ≡ false

-- no number goes on
abbrev pub BehindNumber : List ℕ → Type 0
BehindNumber [] = Unit {0}
BehindNumber (b ∷ s) = (is_ascii_digit b ≡ false) × (eqb b 46 ≡ false)

-- no unit goes on
abbrev pub BehindUnit : List ℕ → Type 0
BehindUnit [] = Unit {0}
BehindUnit (b ∷ s) = eqb b 115 ≡ false

-- no sign stands first
abbrev pub Unsigned : List ℕ → Type 0
Unsigned [] = Unit {0}
Unsigned (b ∷ s) = (eqb b 45 ≡ false) × (eqb b 43 ≡ false)

pub all_front : (xs ys : List ℕ) → AllByRecursion (λ d. d < 10) (xs ++ ys) → AllByRecursion (λ d. d < 10) xs
all_front [] ys all = tt
all_front (x ∷ xs) ys all = (all.0, all_front xs ys all.1)

pub all_back : (xs ys : List ℕ) → AllByRecursion (λ d. d < 10) (xs ++ ys) → AllByRecursion (λ d. d < 10) ys
all_back [] ys all = all
all_back (x ∷ xs) ys all = all_back xs ys all.1

pub behind_digits : (s : List ℕ) → BehindNumber s → BehindDigits s
behind_digits [] h = tt
behind_digits (b ∷ s) h = h.0

pub suffix_behind : (u : Suffix) (rest : List ℕ) → BehindNumber (suffix_text u ++ rest)
suffix_behind hour rest = (refl, refl)
suffix_behind minute rest = (refl, refl)
suffix_behind second rest = (refl, refl)
suffix_behind millisecond rest = (refl, refl)
suffix_behind microsecond rest = (refl, refl)
suffix_behind micro_sign rest = (refl, refl)
suffix_behind greek_mu rest = (refl, refl)
suffix_behind nanosecond rest = (refl, refl)

-- a digit or a point stands first
abbrev BeginsNumber : List ℕ → Type 0
BeginsNumber [] = ⊥
BeginsNumber (b ∷ s) = (eqb b 115 ≡ false) × (eqb b 45 ≡ false) × (eqb b 43 ≡ false)

digit_begins : (d : ℕ) (s : List ℕ) → d < 10 → BeginsNumber ((48 + d) ∷ s)
digit_begins d s h = (ne_eqb (48 + d) 115 (λ e. omega arith), ne_eqb (48 + d) 45 (λ e. omega arith), ne_eqb (48 + d) 43 (λ e. omega arith))

number_begins : (n : Number) (rest : List ℕ) → AllByRecursion (λ d. d < 10) (digits n) → 0 < length (digits n) → BeginsNumber (number_text n ++ rest)
number_begins (plain []) rest all some = absurd (omega arith)
number_begins (plain (d ∷ ds)) rest all some = digit_begins d (digits_text ds ++ rest) all.0
number_begins (pointed [] es) rest all some = (refl, refl, refl)
number_begins (pointed (d ∷ ds) es) rest all some = digit_begins d ((digits_text ds ++ 46 ∷ digits_text es) ++ rest) all.0

amount_begins : (a : Amount) (rest : List ℕ) → ProperAmount a → BeginsNumber (amount_text a ++ rest)
amount_begins a rest proper =
    subst BeginsNumber (sym (append_assoc (number_text a.numeral) (suffix_text a.suffix) rest)) (number_begins a.numeral (suffix_text a.suffix ++ rest) proper.0 proper.1)

begins_behind : (s : List ℕ) → BeginsNumber s → BehindUnit s
begins_behind [] h = tt
begins_behind (b ∷ s) h = h.0

begins_unsigned : (s : List ℕ) → BeginsNumber s → Unsigned s
begins_unsigned [] h = tt
begins_unsigned (b ∷ s) h = (h.1, h.2)

pub amounts_behind : (more : List Amount) → AllByRecursion ProperAmount more → BehindUnit (amounts_text more)
amounts_behind [] proper = tt
amounts_behind (a ∷ more) proper = begins_behind (amount_text a ++ amounts_text more) (amount_begins a (amounts_text more) proper.0)

pub body_unsigned : (b : Body) → AllByRecursion ProperAmount (all_amounts b) → Unsigned (body_text b)
body_unsigned nought proper = (refl, refl)
body_unsigned (amounts a more) proper = begins_unsigned (amounts_text (a ∷ more)) (amount_begins a (amounts_text more) proper.0)

-- ---- lengths

suffix_some : (u : Suffix) → 0 < length (suffix_text u)
suffix_some hour = omega arith
suffix_some minute = omega arith
suffix_some second = omega arith
suffix_some millisecond = omega arith
suffix_some microsecond = omega arith
suffix_some micro_sign = omega arith
suffix_some greek_mu = omega arith
suffix_some nanosecond = omega arith

number_some : (n : Number) → 0 < length (digits n) → 0 < length (number_text n)
number_some (plain []) some = absurd (omega arith)
number_some (plain (d ∷ ds)) some = omega arith
number_some (pointed ds es) some = omega (arith, length-append (digits_text ds) (46 ∷ digits_text es))

amount_long : (a : Amount) → ProperAmount a → 2 ≤ length (amount_text a)
amount_long a proper =
    let n = number_some a.numeral proper.1 in
    let u = suffix_some a.suffix in
    omega (arith, length-append (number_text a.numeral) (suffix_text a.suffix))

pub amounts_long : (more : List Amount) → AllByRecursion ProperAmount more → length more + length more ≤ length (amounts_text more)
amounts_long [] proper = omega arith
amounts_long (a ∷ more) proper = omega (arith, length-append (amount_text a) (amounts_text more), amount_long a proper.0, amounts_long more proper.1)
