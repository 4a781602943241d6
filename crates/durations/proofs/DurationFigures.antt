-- Digits, one at a time.
use Rattle.std.proofs.Common.{◌≡◌, ℕ, ◌+◌, ◌^◌, ◌<◌, ◌≤◌, Bool, true, false, cond, eqb, ltb, List, [], ◌∷◌, length, Some, None, Option, subst, arith}
use native.Mathlib.Nat.{pow-le-pow_right}
use Rattle.std.specs.Char.{is_ascii_digit}
use Rattle.durations.proofs.DurationOptions.{not_some, some_same}
use Rattle.durations.specs.declared.duration.Figures.{Figures}
use Rattle.durations.specs.Duration.{leading_figures, fraction, longer}

pub ten_upto : (n : ℕ) → n ≤ 15 → 10 ^ n ≤ 10 ^ 15
ten_upto n h = pow-le-pow_right {n = 10} (omega arith) h

pub ten_positive : (k : ℕ) → 0 < 10 ^ k
ten_positive k = let p : 10 ^ 0 ≤ 10 ^ k = pow-le-pow_right {n = 10} (omega arith) {i = 0} {j = k} (omega arith) in omega arith

-- p goes on from f with digits of a text of n bytes
pub record Grown (f : Figures) (n : ℕ) (p : Figures × List ℕ) : Type 0 where
  pub count : f.count ≤ p.0.count
  pub left : length p.1 + p.0.count ≤ n + f.count

stays : (f : Figures) (s : List ℕ) (p : Figures × List ℕ) → ◌≡◌ {A = Option (Figures × List ℕ)} (Some (f, s)) (Some p) → Grown f (length s) p
stays f s p e = subst (Grown f (length s)) (some_same (f, s) p e) record { count = omega arith; left = omega arith }

grown_by : (f : Figures) (b : ℕ) (s : List ℕ) (p : Figures × List ℕ) → (t u : Bool)
    → (leading_figures (longer f b) s ≡ Some p → Grown (longer f b) (length s) p)
    → cond t (cond u (leading_figures (longer f b) s) None) (Some (f, b ∷ s)) ≡ Some p → Grown f (length (b ∷ s)) p
grown_by f b s p true true rec e = let g = rec e in record { count = omega (arith, g.count); left = omega (arith, g.left) }
grown_by f b s p true false rec e = not_some p e
grown_by f b s p false u rec e = stays f (b ∷ s) p e

pub figures_grown : (f : Figures) (s : List ℕ) (p : Figures × List ℕ) → leading_figures f s ≡ Some p → Grown f (length s) p
figures_grown f [] p e = stays f [] p e
figures_grown f (b ∷ s) p e = grown_by f b s p (is_ascii_digit b) (ltb f.count 15) (figures_grown (longer f b) s p) e

fraction_by : (f : Figures) (b : ℕ) (s : List ℕ) (p : Figures × List ℕ) → (t : Bool) → cond t (leading_figures f s) (Some (f, b ∷ s)) ≡ Some p → Grown f (length (b ∷ s)) p
fraction_by f b s p true e = let g = figures_grown f s p e in record { count = g.count; left = omega (arith, g.left) }
fraction_by f b s p false e = stays f (b ∷ s) p e

pub fraction-grown : (f : Figures) (s : List ℕ) (p : Figures × List ℕ) → fraction f s ≡ Some p → Grown f (length s) p
fraction-grown f [] p e = stays f [] p e
fraction-grown f (b ∷ s) p e = fraction_by f b s p (eqb b 46) e
