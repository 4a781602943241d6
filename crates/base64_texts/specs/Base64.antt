-- Base64, RFC 4648 section 4: encoding, and decoding of exactly what encoding gives.

use Rattle.std.specs.Prelude.{◌≡◌, ℕ, ◌+◌, ◌-◌, ◌*◌, ◌/◌, ◌%◌, ◌<◌, Bool, true, false, cond, ◌&&◌, List, [], ◌∷◌, ◌++◌, Some, None, codes, Option, ◌==◌, nat_le, slice_index}
use Rattle.std.specs.Option.{option_map}
use Rattle.std.specs.List.{AllByRecursion}

-- the 64 signs, each at the place of the six bits that it stands for
unfoldable pub alphabet : List ℕ
alphabet = codes "ABCDEFGHIJKLMNOPQRSTUVWXYZabcdefghijklmnopqrstuvwxyz0123456789+/"

-- the sign of six bits
unfoldable pub sign : ℕ → ℕ
sign v = slice_index alphabet v

-- the padding sign, "="
abbrev pub pad : ℕ
pad = 61

-- the text of bytes: four signs for each three bytes, the last four padded where one or two bytes are left
unfoldable pub encode : List ℕ → List ℕ
encode [] = []
encode (x ∷ []) = sign (x / 4) ∷ sign (x % 4 * 16) ∷ pad ∷ pad ∷ []
encode (x ∷ y ∷ []) = sign (x / 4) ∷ sign (x % 4 * 16 + y / 16) ∷ sign (y % 16 * 4) ∷ pad ∷ []
encode (x ∷ y ∷ z ∷ rest) =
    sign (x / 4) ∷ sign (x % 4 * 16 + y / 16) ∷ sign (y % 16 * 4 + z / 64) ∷ sign (z % 64) ∷ encode rest

-- the six bits that a sign stands for, if it is of the alphabet: A to Z, a to z, 0 to 9, + and /
abbrev pub sextet : ℕ → Option ℕ
sextet s =
    cond (nat_le 65 s && nat_le s 90) (Some (s - 65))
    (cond (nat_le 97 s && nat_le s 122) (Some (s - 97 + 26))
    (cond (nat_le 48 s && nat_le s 57) (Some (s - 48 + 52))
    (cond (s == 43) (Some 62) (cond (s == 47) (Some 63) None))))

-- f of a value, if there is one
abbrev pub then : {A B : Type 0} → Option A → (A → Option B) → Option B
then None f = None
then (Some x) f = f x

-- "XX==" is one byte, if the four spare bits are zero
abbrev pub one_octet : ℕ → ℕ → Option (List ℕ)
one_octet a b =
    then (sextet a) (λ p. then (sextet b) (λ q. cond (q % 16 == 0) (Some ((p * 4 + q / 16) ∷ [])) None))

-- "XXX=" is two bytes, if the two spare bits are zero
abbrev pub two_octets : ℕ → ℕ → ℕ → Option (List ℕ)
two_octets a b c =
    then (sextet a) (λ p. then (sextet b) (λ q. then (sextet c) (λ r.
    cond (r % 4 == 0) (Some ((p * 4 + q / 16) ∷ (q % 16 * 16 + r / 4) ∷ [])) None)))

-- "XXXX" is three bytes
abbrev pub three_octets : ℕ → ℕ → ℕ → ℕ → Option (List ℕ)
three_octets a b c d =
    then (sextet a) (λ p. then (sextet b) (λ q. then (sextet c) (λ r. then (sextet d) (λ s.
    Some ((p * 4 + q / 16) ∷ (q % 16 * 16 + r / 4) ∷ (r % 4 * 64 + s) ∷ [])))))

-- the bytes of four signs, padded only where they are the last of the text
abbrev pub quantum : Bool → ℕ → ℕ → ℕ → ℕ → Option (List ℕ)
quantum last a b c d =
    cond (last && (d == pad && c == pad)) (one_octet a b)
    (cond (last && d == pad) (two_octets a b c) (three_octets a b c d))

-- whether a text is at its end
abbrev pub ended : List ℕ → Bool
ended [] = true
ended (x ∷ xs) = false

-- the bytes of a text, if it is base64
unfoldable pub decoded : List ℕ → Option (List ℕ)
decoded [] = Some []
decoded (a ∷ []) = None
decoded (a ∷ b ∷ []) = None
decoded (a ∷ b ∷ c ∷ []) = None
decoded (a ∷ b ∷ c ∷ d ∷ rest) =
    then (quantum (ended rest) a b c d) (λ bytes. option_map (λ more. bytes ++ more) (decoded rest))

-- decoding is the inverse of encoding, and answers on nothing else
pub record Base64Inverts : Type 0 where
  -- bytes that are encoded are decoded again
  pub decodes_encoded : (bytes : List ℕ) → AllByRecursion (λ x. x < 256) bytes → decoded (encode bytes) ≡ Some bytes
  -- a text that is decoded is the text of its bytes
  pub encodes_decoded : (text bytes : List ℕ) → decoded text ≡ Some bytes → (encode bytes ≡ text) × AllByRecursion (λ x. x < 256) bytes
  -- no two texts are decoded to the same bytes
  pub one_text : (text other bytes : List ℕ) → decoded text ≡ Some bytes → decoded other ≡ Some bytes → text ≡ other
