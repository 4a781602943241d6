-- Answers that there may be.
use Rattle.std.proofs.Common.{◌≡◌, Bool, true, false, cond, Some, None, Option, refl}
use Rattle.image.specs.Decode.{then}
use Rattle.std.proofs.lemmas.Option.{none-some, same_Some}
use Rattle.std.specs.Option.{option_map}

pub if_then : {A : Type 0} (b : Bool) (o : Option A) (y : A) → cond b o None ≡ Some y → (b ≡ true) × (o ≡ Some y)
if_then true o y e = (refl, e)
if_then false o y e = absurd (none-some y e)

pub record Through {A B : Type 0} (o : Option A) (f : A → Option B) (y : B) : Type 0 where
  pub mid : A
  pub was : o ≡ Some mid
  pub gives : f mid ≡ Some y

pub then_some : {A B : Type 0} (o : Option A) (f : A → Option B) (y : B) → then o f ≡ Some y → Through o f y
then_some None f y e = absurd (none-some y e)
then_some (Some x) f y e = record { mid = x; was = refl; gives = e }

pub record Over {A B : Type 0} (o : Option A) (f : A → B) (y : B) : Type 0 where
  pub mid : A
  pub was : o ≡ Some mid
  pub gives : f mid ≡ y

pub mapped_some : {A B : Type 0} (o : Option A) (f : A → B) (y : B) → option_map f o ≡ Some y → Over o f y
mapped_some None f y e = absurd (none-some y e)
mapped_some (Some x) f y e = record { mid = x; was = refl; gives = same_Some (f x) y e }
