-- Two texts worked by hand.

use Rattle.std.specs.Prelude.{◌≡◌, [], ◌∷◌, Some, None, codes}
use Rattle.base64_texts.specs.Base64.{decoded}

-- "Zg==" is the byte "f", and "Zh==", whose spare bits are not zero, is no base64
pub record WorkedBytes : Type 0 where
  pub padded : decoded (codes "Zg==") ≡ Some (0x66 ∷ [])
  pub spare : decoded (codes "Zh==") ≡ None
