-- What the program prints of a conversion's answer.
use Rattle.std.specs.Prelude.{◌≡◌, ℕ, ◌+◌, ◌/◌, ◌%◌, cond, List, [], ◌∷◌, ◌++◌, ℤ, Some, None, codes, Option, Result, Vec, IfOk, vec_items, nat_lt}
use Rattle.std.specs.Borrow.{Bor}
use Rattle.std.specs.Fn.{Shared}
use Rattle.solderjade.specs.declared.failure.Failure.{Failure}
use Rattle.base64_texts.specs.Base64.{decoded}
use Rattle.durations.specs.Duration.{duration}
use Rattle.escaping.specs.Escape.{escape}
use Rattle.std.specs.List.{flat_map}
use Rattle.std.specs.Str.{bytes_eq}
use Rattle.std.specs.Fmt.{signed_decimal}

-- the sign of a hexadecimal digit, in lower case
abbrev pub hex_digit : ℕ → ℕ
hex_digit n = cond (nat_lt n 10) (48 + n) (87 + n)

-- two digits for each byte
unfoldable pub hexed : List ℕ → List ℕ
hexed [] = []
hexed (b ∷ s) = hex_digit (b / 16) ∷ (hex_digit (b % 16) ∷ hexed s)

-- nanoseconds, or the word `text` where a text is no duration
abbrev pub shown_duration : Option ℤ → List ℕ
shown_duration (Some z) = signed_decimal z
shown_duration None = codes "text"

-- bytes in hexadecimal, or the word `text` where a text is no base64
abbrev pub shown_bytes : Option (List ℕ) → List ℕ
shown_bytes (Some s) = hexed s
shown_bytes None = codes "text"

-- the line of each word, with its end
abbrev pub lines_of : (List ℕ → List ℕ) → List (List ℕ) → List ℕ
lines_of line words = flat_map (λ w. line w ++ 10 ∷ []) words

-- each call of f that is good gives the line of the word that it was called with
abbrev pub Prints : {F H Z : Type 0} → Shared F (H × (Bor (List ℕ) × Unit {0})) (Result (Vec ℕ Z) Failure) → F → (List ℕ → List ℕ) → Type 0
Prints {H = H} {Z = Z} g f line = (heap : H) (word : Bor (List ℕ)) (r : Result (Vec ℕ Z) Failure) → g.post f (heap, (word, tt)) r → IfOk r (λ v. vec_items v ≡ line word.now)

-- what a call prints, by its verb and the words behind it, where `usage` tells what the program can do; nothing where it is none
abbrev pub answered : List ℕ → List (List ℕ) → Option (List ℕ)
answered usage [] = None
answered usage (verb ∷ words) =
    cond (bytes_eq verb (codes "bytes")) (Some (lines_of (λ s. shown_bytes (decoded s)) words))
    (cond (bytes_eq verb (codes "duration")) (Some (lines_of (λ s. shown_duration (duration s)) words))
    (cond (bytes_eq verb (codes "escape")) (Some (lines_of (λ s. escape s) words))
    (cond (bytes_eq verb (codes "help")) (Some (usage ++ 10 ∷ [])) None)))
