-- What is read is spelled.
use Rattle.std.proofs.Common.{◌≡◌, ℕ, zero, suc, ◌+◌, ◌-◌, ◌*◌, ◌/◌, ◌^◌, ◌<◌, ◌≤◌, Bool, true, false, cond, ◌&&◌, eqb, ltb, List, [], ◌∷◌, ◌++◌, length, drop, ℤ, Some, None, Option, sym, refl, ap, ◌∙◌, subst, append_assoc, arith, length-append}
use Rattle.std.proofs.lemmas.Int.Digits.{number_after_append}
use Rattle.std.proofs.ByRecursion.{All-append}
use Rattle.std.proofs.lemmas.Bool.{ltb-true, eqb-true, and_parts}
use Rattle.std.proofs.lemmas.Bool.Decides.{nat_tests}
use Rattle.std.specs.Option.{option_map}
use Rattle.std.specs.Char.{is_ascii_digit}
use Rattle.std.specs.Int.Digits.{number_from_digits, number_from_digits_after}
use Rattle.std.specs.List.{AllByRecursion}
use Rattle.durations.specs.declared.duration.Figures.{Figures}
use Rattle.durations.specs.declared.duration.Numeral.{Numeral}
use Rattle.durations.specs.declared.duration.Sign.{Sign}
use Rattle.durations.specs.declared.duration.Sign.TheVariants.{Plus, Minus}
use Rattle.durations.specs.declared.duration.Unit.{Unit as TimeUnit}
use Rattle.durations.specs.Duration.{no_figures, longer, leading_figures, fraction, leading_numeral, begins, units, unit_of, leading_unit, unit_nanoseconds, whole_nanoseconds, leading_amount, sum_from, magnitude, sign, signed, duration}
use Rattle.durations.specs.DurationGrammar.{Suffix, hour, minute, second, millisecond, microsecond, micro_sign, greek_mu, nanosecond, suffix_text, unit_value, Number, plain, pointed, digits, decimals, digits_text, number_text, Amount, amount_text, whole, amounts_text, total, Body, nought, amounts, all_amounts, body_text, Mark, bare, plus, minus, mark_text, marked, ProperAmount, Short, Spells}
use Rattle.durations.proofs.DurationOptions.{not_some, some_same, then_some, mapped_some, cond_some, cond_none}
use Rattle.durations.proofs.DurationAmounts.{Numbered, numeral_parts}
use Rattle.durations.proofs.DurationSums.{sum_zero, sum_end, sum_turn, added, magnitude-below}
use Rattle.durations.proofs.DurationComplete.{extended, extended-value, extended_count}

-- digits that stand at the front of s, and what follows them
pub record DigitsRead (f : Figures) (s : List ℕ) (p : Figures × List ℕ) : Type 0 where
  pub read : List ℕ
  pub proper : AllByRecursion (λ d. d < 10) read
  pub text : s ≡ digits_text read ++ p.1
  pub figures_are : p.0 ≡ extended f read
  pub few : p.0.count ≤ 15

no_digits : (f : Figures) (s : List ℕ) (p : Figures × List ℕ) → f.count ≤ 15 → ◌≡◌ {A = Option (Figures × List ℕ)} (Some (f, s)) (Some p) → DigitsRead f s p
no_digits f s p few e = subst (DigitsRead f s) (some_same (f, s) p e) record { read = []; proper = tt; text = refl; figures_are = refl; few = few }

digits_by : (f : Figures) (b : ℕ) (s : List ℕ) (p : Figures × List ℕ) → f.count ≤ 15 → (t u : Bool) → is_ascii_digit b ≡ t → ltb f.count 15 ≡ u
    → (f.count + 1 ≤ 15 → leading_figures (longer f b) s ≡ Some p → DigitsRead (longer f b) s p)
    → cond t (cond u (leading_figures (longer f b) s) None) (Some (f, b ∷ s)) ≡ Some p → DigitsRead f (b ∷ s) p
digits_by f b s p few true true d k rec e =
    let room : f.count < 15 = ltb-true f.count 15 k in
    let r = rec (omega arith) e in
    let small : b - 48 < 10 = grind (arith, nat_tests) in
    let back : b ≡ 48 + (b - 48) = grind (arith, nat_tests) in
    record {
      read = (b - 48) ∷ r.read;
      proper = (small, r.proper);
      text = ap (λ s. b ∷ s) r.text ∙ ap (λ x. x ∷ digits_text r.read ++ p.1) back;
      figures_are = r.figures_are ∙ ap (λ x. extended (longer f x) r.read) back;
      few = r.few;
    }
digits_by f b s p few true false d k rec e = not_some p e
digits_by f b s p few false u d k rec e = no_digits f (b ∷ s) p few e

pub figures_sound : (f : Figures) (s : List ℕ) (p : Figures × List ℕ) → f.count ≤ 15 → leading_figures f s ≡ Some p → DigitsRead f s p
figures_sound f [] p few e = no_digits f [] p few e
figures_sound f (b ∷ s) p few e = digits_by f b s p few (is_ascii_digit b) (ltb f.count 15) refl refl (figures_sound (longer f b) s p) e

-- a number whose digits before the point are w, and all f
pub record NumberRead (s : List ℕ) (w : Figures) (p : Figures × List ℕ) : Type 0 where
  pub parts : Number
  pub proper : AllByRecursion (λ d. d < 10) (digits parts)
  pub text : s ≡ number_text parts ++ p.1
  pub value_is : p.0.value ≡ number_from_digits 10 (digits parts)
  pub count_is : p.0.count ≡ length (digits parts)
  pub decimals_are : p.0.count - w.count ≡ decimals parts
  pub few : p.0.count ≤ 15

no_point : (s rest : List ℕ) (w : Figures) (p : Figures × List ℕ) → DigitsRead no_figures s (w, rest) → ◌≡◌ {A = Option (Figures × List ℕ)} (Some (w, rest)) (Some p) → NumberRead s w p
no_point s rest w p d e =
    subst (NumberRead s w) (some_same (w, rest) p e)
    record {
      parts = plain d.read;
      proper = d.proper;
      text = d.text;
      value_is = ap (λ f. f.value) d.figures_are ∙ extended-value no_figures d.read;
      count_is = ap (λ f. f.count) d.figures_are ∙ extended_count no_figures d.read ∙ omega arith;
      decimals_are = omega arith;
      few = d.few;
    }

point : (s rest : List ℕ) (b : ℕ) (w : Figures) (p : Figures × List ℕ) → DigitsRead no_figures s (w, b ∷ rest) → b ≡ 46 → DigitsRead w rest p → NumberRead s w p
point s rest b w p d e r =
    let count : w.count ≡ length d.read = ap (λ f. f.count) d.figures_are ∙ extended_count no_figures d.read ∙ omega arith in
    let more : p.0.count ≡ w.count + length r.read = ap (λ f. f.count) r.figures_are ∙ extended_count w r.read in
    let first : w.value ≡ number_from_digits 10 d.read = ap (λ f. f.value) d.figures_are ∙ extended-value no_figures d.read in
    record {
      parts = pointed d.read r.read;
      proper = All-append (λ d. d < 10) d.read r.read d.proper r.proper;
      text =
          d.text
          ∙ ap (λ x. digits_text d.read ++ x ∷ rest) e
          ∙ ap (λ t. digits_text d.read ++ 46 ∷ t) r.text
          ∙ sym (append_assoc (digits_text d.read) (46 ∷ digits_text r.read) p.1);
      value_is = ap (λ f. f.value) r.figures_are ∙ extended-value w r.read ∙ ap (λ n. number_from_digits_after 10 n r.read) first ∙ sym (number_after_append 10 0 d.read r.read);
      count_is = omega (arith, length-append d.read r.read);
      decimals_are = omega arith;
      few = r.few;
    }

point_by : (s rest : List ℕ) (b : ℕ) (w : Figures) (p : Figures × List ℕ) → DigitsRead no_figures s (w, b ∷ rest) → (t : Bool) → eqb b 46 ≡ t
    → cond t (leading_figures w rest) (Some (w, b ∷ rest)) ≡ Some p → NumberRead s w p
point_by s rest b w p d true k e = point s rest b w p d (eqb-true b 46 k) (figures_sound w rest p d.few e)
point_by s rest b w p d false k e = no_point s (b ∷ rest) w p d e

fraction_sound : (s rest : List ℕ) (w : Figures) (p : Figures × List ℕ) → DigitsRead no_figures s (w, rest) → fraction w rest ≡ Some p → NumberRead s w p
fraction_sound s [] w p d e = no_point s [] w p d e
fraction_sound s (b ∷ rest) w p d e = point_by s rest b w p d (eqb b 46) refl e

-- ---- units

begins_splits : (p s : List ℕ) → begins p s ≡ true → s ≡ p ++ drop (length p) s
begins_splits [] s e = refl
begins_splits (x ∷ p) [] e = absurd cc
begins_splits (x ∷ p) (y ∷ s) e =
    let b = and_parts (eqb x y) (begins p s) e in
    ap (λ n. n ∷ s) (sym (eqb-true x y b.0)) ∙ ap (λ t. x ∷ t) (begins_splits p s b.1)

-- a word of the table is the text of a suffix with its value
pub record Known (word : List ℕ) (u : TimeUnit) : Type 0 where
  pub suffix : Suffix
  pub text : suffix_text suffix ≡ word
  pub value_is : unit_nanoseconds u ≡ unit_value suffix

pub record UnitRead (s : List ℕ) (q : TimeUnit × List ℕ) : Type 0 where
  pub suffix : Suffix
  pub text : s ≡ suffix_text suffix ++ q.1
  pub value_is : unit_nanoseconds q.0 ≡ unit_value suffix

unit_of_sound : (t : List (List ℕ × TimeUnit)) (s : List ℕ) (q : TimeUnit × List ℕ) → AllByRecursion (λ x. Known x.0 x.1) t → unit_of t s ≡ Some q → UnitRead s q
unit_of_sound [] s q all e = not_some q e
unit_of_sound (x ∷ t) s q all e =
    cond_some (UnitRead s) (begins x.0 s) (x.1, drop (length x.0) s) (unit_of t s) q e
    (λ b. record { suffix = all.0.suffix; text = begins_splits x.0 s b ∙ ap (λ w. w ++ drop (length x.0) s) (sym all.0.text); value_is = all.0.value_is })
    (unit_of_sound t s q all.1)

all_known : AllByRecursion (λ x. Known x.0 x.1) units
all_known = (
  record { suffix = millisecond; text = refl; value_is = refl },
  (
    record { suffix = microsecond; text = refl; value_is = refl },
    (
      record { suffix = micro_sign; text = refl; value_is = refl },
      (
        record { suffix = greek_mu; text = refl; value_is = refl },
        (
          record { suffix = nanosecond; text = refl; value_is = refl },
          (
            record { suffix = hour; text = refl; value_is = refl },
            (
              record { suffix = minute; text = refl; value_is = refl },
              (record { suffix = second; text = refl; value_is = refl }, tt),
            ),
          ),
        ),
      ),
    ),
  ),
)

-- ---- amounts

pub record AmountRead (s : List ℕ) (p : ℕ × List ℕ) : Type 0 where
  pub read : Amount
  pub proper : ProperAmount read
  pub short : Short read
  pub text : s ≡ amount_text read ++ p.1
  pub value_is : p.0 ≡ whole read

amount_made : (s : List ℕ) (n : Numeral × List ℕ) (q : TimeUnit × List ℕ) (m : Numbered s n) → NumberRead s m.whole.0 m.all → UnitRead n.1 q → AmountRead s (whole_nanoseconds n.0 q.0, q.1)
amount_made s n q m f x =
    let d : n.0.digits ≡ number_from_digits 10 (digits f.parts) = m.digits ∙ f.value_is in
    let u : unit_nanoseconds q.0 ≡ unit_value x.suffix = x.value_is in
    let k : n.0.decimals ≡ decimals f.parts = m.decimals ∙ f.decimals_are in
    record {
      read = record { numeral = f.parts; suffix = x.suffix };
      proper = (f.proper, omega (arith, f.count_is, m.some));
      short = omega (arith, f.count_is, f.few);
      text =
          f.text
          ∙ ap (λ t. number_text f.parts ++ t) (sym m.rest ∙ x.text)
          ∙ sym (append_assoc (number_text f.parts) (suffix_text x.suffix) q.1);
      value_is = λ i. d i * u i / 10 ^ k i;
    }

pub amount_sound : (s : List ℕ) (p : ℕ × List ℕ) → leading_amount s ≡ Some p → AmountRead s p
amount_sound s p e =
    let n = then_some (leading_numeral s) (λ n. option_map (λ u. (whole_nanoseconds n.0 u.0, u.1)) (leading_unit n.1)) p e in
    let u = mapped_some (λ u. (whole_nanoseconds n.0.0 u.0, u.1)) (leading_unit n.0.1) p n.2 in
    let m = numeral_parts s n.0 n.1 in
    let w = figures_sound no_figures s m.whole (omega arith) m.digits-first in
    let f = fraction_sound s m.whole.1 m.whole.0 m.all w m.digits_all in
    subst (AmountRead s) u.2 (amount_made s n.0 u.0 m f (unit_of_sound units n.0.1 u.0 all_known u.1))

-- ---- sums

pub record SumRead (t : ℕ) (s : List ℕ) (n : ℕ) : Type 0 where
  pub read : List Amount
  pub proper : AllByRecursion ProperAmount read
  pub short : AllByRecursion Short read
  pub text : s ≡ amounts_text read
  pub value_is : n ≡ t + total read

pub sum_sound : (k t : ℕ) (s : List ℕ) (n : ℕ) → sum_from k t s ≡ Some n → SumRead t s n
sum_sound zero t s n e = not_some n (sym (sum_zero t s) ∙ e)
sum_sound (suc k) t [] n e =
    let z : t ≡ n = some_same t n (sym (sum_end (suc k) t (omega arith)) ∙ e) in
    record { read = []; proper = tt; short = tt; text = refl; value_is = omega arith }
sum_sound (suc k) t (b ∷ s) n e =
    let p = then_some (leading_amount (b ∷ s)) (added k t) n (sym (sum_turn k t (b ∷ s) (omega arith)) ∙ e) in
    let c = cond_none (ltb (t + p.0.0) (2 ^ 63)) (sum_from k (t + p.0.0) p.0.1) n p.2 in
    let a = amount_sound (b ∷ s) p.0 p.1 in
    let r = sum_sound k (t + p.0.0) p.0.1 n c.1 in
    record {
      read = a.read ∷ r.read;
      proper = (a.proper, r.proper);
      short = (a.short, r.short);
      text = a.text ∙ ap (λ x. amount_text a.read ++ x) r.text;
      value_is = omega (arith, a.value_is, r.value_is);
    }

pub record BodyRead (s : List ℕ) (n : ℕ) : Type 0 where
  pub read : Body
  pub proper : AllByRecursion ProperAmount (all_amounts read)
  pub short : AllByRecursion Short (all_amounts read)
  pub text : body_text read ≡ s
  pub value_is : total (all_amounts read) ≡ n

-- a sum over some byte has an amount
sum_body : (b : ℕ) (s : List ℕ) (n : ℕ) (more : List Amount) → AllByRecursion ProperAmount more → AllByRecursion Short more → b ∷ s ≡ amounts_text more → n ≡ 0 + total more → BodyRead (b ∷ s) n
sum_body b s n [] proper short text v = absurd (omega (arith, ap length text))
sum_body b s n (a ∷ more) proper short text v = record { read = amounts a more; proper = proper; short = short; text = sym text; value_is = omega arith }

nought_text : (b : ℕ) (s : List ℕ) → b ≡ 48 → length s ≡ 0 → body_text nought ≡ b ∷ s
nought_text b [] e h = ap (λ x. x ∷ []) (sym e)
nought_text b (c ∷ s) e h = absurd (omega arith)

nought_read : (b : ℕ) (s : List ℕ) → (eqb b 48 && eqb (length s) 0) ≡ true → BodyRead (b ∷ s) 0
nought_read b s e =
    let both = and_parts (eqb b 48) (eqb (length s) 0) e in
    record { read = nought; proper = tt; short = tt; text = nought_text b s (eqb-true b 48 both.0) (eqb-true (length s) 0 both.1); value_is = refl }

pub magnitude_sound : (s : List ℕ) (n : ℕ) → magnitude s ≡ Some n → BodyRead s n
magnitude_sound [] n e = not_some n e
magnitude_sound (b ∷ s) n e =
    cond_some (BodyRead (b ∷ s)) (eqb b 48 && eqb (length s) 0) 0 (sum_from (length (b ∷ s) + 1) 0 (b ∷ s)) n e (nought_read b s)
    (λ h. let r = sum_sound (length (b ∷ s) + 1) 0 (b ∷ s) n h in sum_body b s n r.read r.proper r.short r.text r.value_is)

-- ---- signs

record MarkRead (s : List ℕ) (p : Sign × List ℕ) : Type 0 where
  read : Mark
  text : s ≡ mark_text read ++ p.1
  value_is : (n : ℕ) → signed p.0 n ≡ marked read n

sign_by : (b : ℕ) (s : List ℕ) (t u : Bool) → eqb b 45 ≡ t → eqb b 43 ≡ u → MarkRead (b ∷ s) (cond t (Minus, s) (cond u (Plus, s) (Plus, b ∷ s)))
sign_by b s true u p q = record { read = minus; text = ap (λ x. x ∷ s) (eqb-true b 45 p); value_is = λ n. refl }
sign_by b s false true p q = record { read = plus; text = ap (λ x. x ∷ s) (eqb-true b 43 q); value_is = λ n. refl }
sign_by b s false false p q = record { read = bare; text = refl; value_is = λ n. refl }

sign_sound : (s : List ℕ) → MarkRead s (sign s)
sign_sound [] = record { read = bare; text = refl; value_is = λ n. refl }
sign_sound (b ∷ s) = sign_by b s (eqb b 45) (eqb b 43) refl refl

pub duration_sound : (s : List ℕ) (z : ℤ) → duration s ≡ Some z → Spells s z
unfolding duration
duration_sound s z e =
    let m = mapped_some (signed (sign s).0) (magnitude (sign s).1) z e in
    let k = sign_sound s in
    let b = magnitude_sound (sign s).1 m.0 m.1 in
    let small : total (all_amounts b.read) < 2 ^ 63 = omega (arith, b.value_is, magnitude-below (sign s).1 m.0 m.1) in
    record {
      reading = record { mark = k.read; body = b.read };
      proper = b.proper;
      within = (b.short, small);
      text = ap (λ t. mark_text k.read ++ t) b.text ∙ sym k.text;
      means = ap (marked k.read) b.value_is ∙ sym (k.value_is m.0) ∙ m.2;
    }
