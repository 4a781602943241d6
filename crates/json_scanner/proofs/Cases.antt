-- Cases on tests.
use Rattle.std.proofs.Common.{◌≡◌, ℕ, ◌<◌, Bool, true, false, cond, ◌||◌, leb}
use Rattle.std.proofs.lemmas.Bool.{cond_both, false≢true, leb-false, or_parts}

pub by_cond : {A : Type 0} (P : A → Type 0) (t : Bool) (x y : A) → (t ≡ true → P x) → (t ≡ false → P y) → P (cond t x y)
by_cond P t x y f h = cond_both t x y P f h

pub never : {X : Type 0} → false ≡ true → X
never e = absurd (false≢true e)

pub no_right : (x y : Bool) → (x || y) ≡ false → y ≡ false
no_right x y e = (or_parts x y e).1

pub below : (m n : ℕ) → leb m n ≡ false → n < m
below m n e = leb-false m n e
