-- What is spelled is read.
use Rattle.std.proofs.Common.{◌≡◌, ℕ, zero, suc, ◌+◌, ◌-◌, ◌*◌, ◌/◌, ◌^◌, ◌<◌, ◌≤◌, true, false, cond, ◌&&◌, eqb, ltb, List, [], ◌∷◌, ◌++◌, length, Some, None, Option, sym, refl, ap, ◌∙◌, append_assoc, arith, length-append}
use Rattle.std.proofs.lemmas.Int.Digits.{number_after_append}
use Rattle.std.proofs.lemmas.Bool.{lt-ltb, ne_eqb, eqb-false}
use Rattle.std.proofs.lemmas.Bool.Decides.{nat_tests}
use Rattle.std.specs.Option.{option_map}
use Rattle.std.specs.Char.{is_ascii_digit}
use Rattle.std.specs.Int.Digits.{number_from_digits, number_from_digits_after}
use Rattle.std.specs.List.{AllByRecursion}
use Rattle.durations.specs.declared.duration.Figures.{Figures}
use Rattle.durations.specs.declared.duration.Numeral.{Numeral}
use Rattle.durations.specs.declared.duration.Sign.{Sign}
use Rattle.durations.specs.declared.duration.Sign.TheVariants.{Plus, Minus}
use Rattle.durations.specs.declared.duration.Unit.{Unit as TimeUnit}
use Rattle.durations.specs.declared.duration.Unit.TheVariants.{Hour, Minute, Second, Millisecond, Microsecond, Nanosecond}
use Rattle.durations.specs.Duration.{then, no_figures, longer, leading_figures, fraction, numbered, leading_numeral, leading_unit, unit_nanoseconds, whole_nanoseconds, leading_amount, sum_from, magnitude, sign, signed, duration}
use Rattle.durations.specs.DurationGrammar.{Suffix, hour, minute, second, millisecond, microsecond, micro_sign, greek_mu, nanosecond, suffix_text, unit_value, Number, plain, pointed, digits, decimals, digits_text, number_text, Amount, amount_text, whole, amounts_text, total, Body, nought, amounts, all_amounts, body_text, Mark, bare, plus, minus, mark_text, marked, Reading, spell, value, ProperAmount, Proper, Short, Within}
use Rattle.durations.proofs.DurationTexts.{BehindDigits, BehindNumber, BehindUnit, all_front, all_back, behind_digits, suffix_behind, amounts_behind, amounts_long, Unsigned, body_unsigned}
use Rattle.durations.proofs.DurationSums.{sum_end, sum_next, magnitude_sum, duration_parts}

-- f with the digits ds behind it
abbrev pub extended : Figures → List ℕ → Figures
extended f [] = f
extended f (d ∷ ds) = extended (longer f (48 + d)) ds

pub extended-value : (f : Figures) (ds : List ℕ) → (extended f ds).value ≡ number_from_digits_after 10 f.value ds
extended-value f [] = refl
extended-value f (d ∷ ds) = let e : f.value * 10 + (48 + d - 48) ≡ f.value * 10 + d = omega arith in extended-value (longer f (48 + d)) ds ∙ ap (λ n. number_from_digits_after 10 n ds) e

pub extended_count : (f : Figures) (ds : List ℕ) → (extended f ds).count ≡ f.count + length ds
extended_count f [] = omega arith
extended_count f (d ∷ ds) = omega (arith, extended_count (longer f (48 + d)) ds)

figures_stop : (f : Figures) (s : List ℕ) → BehindDigits s → leading_figures f s ≡ Some (f, s)
figures_stop f [] h = refl
figures_stop f (b ∷ s) h = rw h

pub figures_read : (f : Figures) (ds rest : List ℕ) → AllByRecursion (λ d. d < 10) ds → f.count + length ds ≤ 15 → BehindDigits rest → leading_figures f (digits_text ds ++ rest) ≡ Some (extended f ds, rest)
figures_read f [] rest all few behind = figures_stop f rest behind
figures_read f (d ∷ ds) rest all few behind =
    let small : d < 10 = all.0 in
    let digit : is_ascii_digit (48 + d) ≡ true = grind (arith, nat_tests) in
    let room : ltb f.count 15 ≡ true = lt-ltb f.count 15 (omega arith) in
    ap (λ c. cond c (cond (ltb f.count 15) (leading_figures (longer f (48 + d)) (digits_text ds ++ rest)) None) (Some (f, (48 + d) ∷ digits_text ds ++ rest))) digit
    ∙ ap (λ c. cond c (leading_figures (longer f (48 + d)) (digits_text ds ++ rest)) None) room
    ∙ figures_read (longer f (48 + d)) ds rest all.1 (omega arith) behind

fraction_stop : (f : Figures) (s : List ℕ) → BehindNumber s → fraction f s ≡ Some (f, s)
fraction_stop f [] h = refl
fraction_stop f (b ∷ s) h = rw h.1

-- a number as it is read
abbrev pub as_numeral : Number → Numeral
as_numeral n = record { digits = number_from_digits 10 (digits n); decimals = decimals n }

numbered_read : (w f : Figures) (n : Number) → 0 < f.count → f.value ≡ number_from_digits 10 (digits n) → f.count - w.count ≡ decimals n → numbered w f ≡ Some (as_numeral n)
numbered_read w f n some v d =
    ap (λ c. cond c None (Some (record { digits = f.value; decimals = f.count - w.count }))) (ne_eqb f.count 0 (λ e. omega arith))
    ∙ (λ i. Some (record { digits = v i; decimals = d i }))

-- what is done with the digits before the point, and with all the digits
abbrev behind_whole : Figures × List ℕ → Option (Numeral × List ℕ)
behind_whole w = then (fraction w.0 w.1) (λ p. option_map (λ n. (n, p.1)) (numbered w.0 p.0))

abbrev behind_all : Figures → Figures × List ℕ → Option (Numeral × List ℕ)
behind_all w p = option_map (λ n. (n, p.1)) (numbered w p.0)

pub numeral_read : (n : Number) (rest : List ℕ) → AllByRecursion (λ d. d < 10) (digits n) → 0 < length (digits n) → length (digits n) ≤ 15 → BehindNumber rest
    → leading_numeral (number_text n ++ rest) ≡ Some (as_numeral n, rest)
numeral_read (plain ds) rest all some few behind =
    let w = extended no_figures ds in
    let c = extended_count no_figures ds in
    ap (λ o. then o behind_whole) (figures_read no_figures ds rest all (omega arith) (behind_digits rest behind))
    ∙ ap (λ o. then o (behind_all w)) (fraction_stop w rest behind)
    ∙ ap (option_map (λ n. (n, rest))) (numbered_read w w (plain ds) (omega arith) (extended-value no_figures ds) (omega arith))
numeral_read (pointed ds es) rest all some few behind =
    let w = extended no_figures ds in
    let f = extended w es in
    let c = extended_count no_figures ds in
    let e = extended_count w es in
    let long : length (ds ++ es) ≡ length ds + length es = length-append ds es in
    let v : f.value ≡ number_from_digits 10 (ds ++ es) = extended-value w es ∙ ap (λ n. number_from_digits_after 10 n es) (extended-value no_figures ds) ∙ sym (number_after_append 10 0 ds es) in
    ap leading_numeral (append_assoc (digits_text ds) (46 ∷ digits_text es) rest)
    ∙ ap (λ o. then o behind_whole) (figures_read no_figures ds (46 ∷ digits_text es ++ rest) (all_front ds es all) (omega arith) refl)
    ∙ ap (λ o. then o (behind_all w)) (figures_read w es rest (all_back ds es all) (omega arith) (behind_digits rest behind))
    ∙ ap (option_map (λ n. (n, rest))) (numbered_read w f (pointed ds es) (omega arith) v (omega arith))

-- a unit as it is read
abbrev pub kind : Suffix → TimeUnit
kind hour = Hour
kind minute = Minute
kind second = Second
kind millisecond = Millisecond
kind microsecond = Microsecond
kind micro_sign = Microsecond
kind greek_mu = Microsecond
kind nanosecond = Nanosecond

pub kind-value : (u : Suffix) → unit_nanoseconds (kind u) ≡ unit_value u
kind-value hour = refl
kind-value minute = refl
kind-value second = refl
kind-value millisecond = refl
kind-value microsecond = refl
kind-value micro_sign = refl
kind-value greek_mu = refl
kind-value nanosecond = refl

minute_read : (rest : List ℕ) → BehindUnit rest → leading_unit (suffix_text minute ++ rest) ≡ Some (Minute, rest)
minute_read [] behind = refl
minute_read (b ∷ rest) behind =
    let other : eqb 115 b ≡ false = ne_eqb 115 b (λ e. eqb-false b 115 behind (sym e)) in
    ap (λ c. cond (c && true) (Some (Millisecond, rest)) (Some (Minute, b ∷ rest))) other

pub unit_read : (u : Suffix) (rest : List ℕ) → BehindUnit rest → leading_unit (suffix_text u ++ rest) ≡ Some (kind u, rest)
unit_read hour rest behind = refl
unit_read minute rest behind = minute_read rest behind
unit_read second rest behind = refl
unit_read millisecond rest behind = refl
unit_read microsecond rest behind = refl
unit_read micro_sign rest behind = refl
unit_read greek_mu rest behind = refl
unit_read nanosecond rest behind = refl

-- what is done with a number, and with a unit behind it
abbrev behind_number : Numeral × List ℕ → Option (ℕ × List ℕ)
behind_number n = option_map (λ u. (whole_nanoseconds n.0 u.0, u.1)) (leading_unit n.1)

pub amount_read : (a : Amount) (rest : List ℕ) → ProperAmount a → Short a → BehindUnit rest → leading_amount (amount_text a ++ rest) ≡ Some (whole a, rest)
amount_read a rest proper short behind =
    ap leading_amount (append_assoc (number_text a.numeral) (suffix_text a.suffix) rest)
    ∙ ap (λ o. then o behind_number) (numeral_read a.numeral (suffix_text a.suffix ++ rest) proper.0 proper.1 short (suffix_behind a.suffix rest))
    ∙ ap (option_map (λ u. (whole_nanoseconds (as_numeral a.numeral) u.0, u.1))) (unit_read a.suffix rest behind)
    ∙ ap (λ v. Some (number_from_digits 10 (digits a.numeral) * v / 10 ^ decimals a.numeral, rest)) (kind-value a.suffix)

-- ---- sums

-- total, and the amounts that are spelled
pub sum_read : (k t : ℕ) (more : List Amount) → AllByRecursion ProperAmount more → AllByRecursion Short more → length more < k → t + total more < 2 ^ 63 → sum_from k t (amounts_text more) ≡ Some (t + total more)
sum_read k t [] proper short fuel small = sum_end k t (omega arith) ∙ ap (λ n. Some n) (omega arith)
sum_read zero t (a ∷ more) proper short fuel small = absurd (omega arith)
sum_read (suc k) t (a ∷ more) proper short fuel small =
    let some : 0 < length (amounts_text (a ∷ more)) = omega (arith, amounts_long (a ∷ more) proper) in
    sum_next k t (amounts_text (a ∷ more)) (whole a, amounts_text more) some (amount_read a (amounts_text more) proper.0 short.0 (amounts_behind more proper.1)) (omega arith)
    ∙ sum_read k (t + whole a) more proper.1 short.1 (omega arith) (omega arith)
    ∙ ap (λ n. Some n) (omega arith)

body_read : (b : Body) → AllByRecursion ProperAmount (all_amounts b) → AllByRecursion Short (all_amounts b) → total (all_amounts b) < 2 ^ 63 → magnitude (body_text b) ≡ Some (total (all_amounts b))
body_read nought proper short small = refl
body_read (amounts a more) proper short small =
    let s = amounts_text (a ∷ more) in
    let long = amounts_long (a ∷ more) proper in
    magnitude_sum s (omega arith) (λ _ one. omega arith)
    ∙ sum_read (length s + 1) 0 (a ∷ more) proper short (omega arith) (omega arith)
    ∙ ap (λ n. Some n) (omega arith)

bare_read : (s : List ℕ) → Unsigned s → sign s ≡ (Plus, s)
bare_read [] h = refl
bare_read (b ∷ s) h = rw (h.0, h.1)

-- a sign as it is read
abbrev mark_sign : Mark → Sign
mark_sign bare = Plus
mark_sign plus = Plus
mark_sign minus = Minus

mark_read : (m : Mark) (s : List ℕ) → Unsigned s → sign (mark_text m ++ s) ≡ (mark_sign m, s)
mark_read bare s h = bare_read s h
mark_read plus s h = refl
mark_read minus s h = refl

mark_value : (m : Mark) (n : ℕ) → signed (mark_sign m) n ≡ marked m n
mark_value bare n = refl
mark_value plus n = refl
mark_value minus n = refl

pub reading_read : (r : Reading) → Proper r → Within r → duration (spell r) ≡ Some (value r)
reading_read r proper within =
    let s = body_text r.body in
    let n = total (all_amounts r.body) in
    duration_parts (spell r) (mark_sign r.mark) s (mark_read r.mark s (body_unsigned r.body proper))
    ∙ ap (option_map (signed (mark_sign r.mark))) (body_read r.body proper within.0 within.1)
    ∙ ap (λ z. Some z) (mark_value r.mark n)
