-- Answers that may be missing.
use Rattle.std.proofs.Common.{◌≡◌, Bool, true, false, cond, Some, None, Option, refl, subst}
use Rattle.std.specs.Option.{option_map}
use Rattle.durations.specs.Duration.{then}

pub not_some : {A B : Type 0} (x : A) → ◌≡◌ {A = Option A} None (Some x) → B
not_some x e = absurd cc

pub some_same : {A : Type 0} (x y : A) → ◌≡◌ {A = Option A} (Some x) (Some y) → x ≡ y
some_same x y e = cc

pub then_some : {A B : Type 0} (o : Option A) (f : A → Option B) (y : B) → then o f ≡ Some y → (x : A) × (o ≡ Some x) × (f x ≡ Some y)
then_some None f y e = not_some y e
then_some (Some x) f y e = (x, refl, e)

pub mapped_some : {A B : Type 0} (f : A → B) (o : Option A) (y : B) → option_map f o ≡ Some y → (x : A) × (o ≡ Some x) × (f x ≡ y)
mapped_some f None y e = not_some y e
mapped_some f (Some x) y e = (x, refl, some_same (f x) y e)

-- the first of two answers, or the second
pub cond_some : {A : Type 0} (P : A → Type 0) (t : Bool) (x : A) (o : Option A) (y : A) → cond t (Some x) o ≡ Some y → (t ≡ true → P x) → (o ≡ Some y → P y) → P y
cond_some P true x o y e first other = subst P (some_same x y e) (first refl)
cond_some P false x o y e first other = other e

-- an answer where the test passes, and none where it fails
pub cond_none : {A : Type 0} (t : Bool) (o : Option A) (y : A) → cond t o None ≡ Some y → (t ≡ true) × (o ≡ Some y)
cond_none true o y e = (refl, e)
cond_none false o y e = not_some y e

pub none_cond : {A : Type 0} (t : Bool) (o : Option A) (y : A) → cond t None o ≡ Some y → (t ≡ false) × (o ≡ Some y)
none_cond true o y e = not_some y e
none_cond false o y e = (refl, e)
