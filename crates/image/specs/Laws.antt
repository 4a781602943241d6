-- What holds of all images.
use Rattle.std.specs.Prelude.{◌≡◌, ℕ, List, ◌++◌, Some}
use Rattle.image.specs.Decode.{Decoded, decoded, decoded_scope}
use Rattle.image.specs.Image.{image, scope_image}
use Rattle.image.specs.Typed.{Octets, Proper, ProperScope, Scope, Typed}

-- images are a prefix code: no image begins another, and each is of one value only
abbrev pub PrefixCode : Type 0
PrefixCode = (v w : Typed) (r s : List ℕ) → Proper v → Proper w → image v ++ r ≡ image w ++ s → (v ≡ w) × (r ≡ s)

-- the value at the front of bytes is decoded exactly where an image stands there
pub record Decodes : Type 0 where
  pub image_decoded : (v : Typed) (r : List ℕ) → Proper v → decoded (image v ++ r) ≡ Some (record { value = v; rest = r })
  pub decoded_image : (s : List ℕ) (d : Decoded) → Octets s → decoded s ≡ Some d → Proper d.value × (s ≡ image d.value ++ d.rest)

-- bytes are decoded as a scope exactly where they are its image
pub record DecodesScopes : Type 0 where
  pub scope_decoded : (s : Scope) → ProperScope s → decoded_scope (scope_image s) ≡ Some s
  pub decoded_is_scope : (bs : List ℕ) (s : Scope) → decoded_scope bs ≡ Some s → ProperScope s × (scope_image s ≡ bs)
