-- Amounts take bytes from the text.
use Rattle.std.proofs.Common.{◌≡◌, ℕ, ◌-◌, ◌<◌, ◌≤◌, eqb, List, [], ◌∷◌, length, drop, Some, sym, ap, ◌∙◌, arith, length-drop}
use Rattle.std.proofs.lemmas.Bool.Decides.{nat_tests}
use Rattle.std.specs.Option.{option_map}
use Rattle.durations.specs.declared.duration.Figures.{Figures}
use Rattle.durations.specs.declared.duration.Numeral.{Numeral}
use Rattle.durations.specs.declared.duration.Unit.{Unit as TimeUnit}
use Rattle.durations.specs.Duration.{then, leading_figures, fraction, no_figures, numbered, leading_numeral, begins, units, unit_of, leading_unit, whole_nanoseconds, leading_amount}
use Rattle.durations.proofs.DurationOptions.{not_some, some_same, then_some, mapped_some, cond_some, none_cond}
use Rattle.durations.proofs.DurationFigures.{figures_grown, fraction-grown}

-- the digits before the point, and all the digits
pub record Numbered (s : List ℕ) (p : Numeral × List ℕ) : Type 0 where
  pub whole : Figures × List ℕ
  pub all : Figures × List ℕ
  pub digits-first : leading_figures no_figures s ≡ Some whole
  pub digits_all : fraction whole.0 whole.1 ≡ Some all
  pub some : 0 < all.0.count
  pub digits : p.0.digits ≡ all.0.value
  pub decimals : p.0.decimals ≡ all.0.count - whole.0.count
  pub rest : p.1 ≡ all.1

pub numeral_parts : (s : List ℕ) (p : Numeral × List ℕ) → leading_numeral s ≡ Some p → Numbered s p
numeral_parts s p e =
    let w = then_some (leading_figures no_figures s) (λ w. then (fraction w.0 w.1) (λ a. option_map (λ n. (n, a.1)) (numbered w.0 a.0))) p e in
    let a = then_some (fraction w.0.0 w.0.1) (λ a. option_map (λ n. (n, a.1)) (numbered w.0.0 a.0)) p w.2 in
    let n = mapped_some (λ n. (n, a.0.1)) (numbered w.0.0 a.0.0) p a.2 in
    let c = none_cond (eqb a.0.0.count 0) (Some (record { digits = a.0.0.value; decimals = a.0.0.count - w.0.0.count })) n.0 n.1 in
    let same = some_same (record { digits = a.0.0.value; decimals = a.0.0.count - w.0.0.count }) n.0 c.1 in
    record {
      whole = w.0;
      all = a.0;
      digits-first = w.1;
      digits_all = a.1;
      some = grind (arith, nat_tests, c.0);
      digits = ap (λ q. q.0.digits) (sym n.2) ∙ ap (λ q. q.digits) (sym same);
      decimals = ap (λ q. q.0.decimals) (sym n.2) ∙ ap (λ q. q.decimals) (sym same);
      rest = ap (λ q. q.1) (sym n.2);
    }

numeral_shrinks : (s : List ℕ) (p : Numeral × List ℕ) → leading_numeral s ≡ Some p → length p.1 < length s
numeral_shrinks s p e =
    let n = numeral_parts s p e in
    let w = figures_grown no_figures s n.whole n.digits-first in
    let a = fraction-grown n.whole.0 n.whole.1 n.all n.digits_all in
    omega (arith, ap length n.rest, a.left, w.left, n.some)

unit_shrinks : (t : List (List ℕ × TimeUnit)) (s : List ℕ) (q : TimeUnit × List ℕ) → unit_of t s ≡ Some q → length q.1 ≤ length s
unit_shrinks [] s q e = not_some q e
unit_shrinks (x ∷ t) s q e =
    cond_some (λ q. length q.1 ≤ length s) (begins x.0 s) (x.1, drop (length x.0) s) (unit_of t s) q e
    (λ _. simp length-drop (omega arith)) (unit_shrinks t s q)

pub amount_shrinks : (s : List ℕ) (a : ℕ × List ℕ) → leading_amount s ≡ Some a → length a.1 < length s
amount_shrinks s a e =
    let n = then_some (leading_numeral s) (λ n. option_map (λ u. (whole_nanoseconds n.0 u.0, u.1)) (leading_unit n.1)) a e in
    let u = mapped_some (λ u. (whole_nanoseconds n.0.0 u.0, u.1)) (leading_unit n.0.1) a n.2 in
    omega (arith, unit_shrinks units n.0.1 u.0 u.1, numeral_shrinks s n.0 n.1, ap (λ q. length q.1) u.2)
