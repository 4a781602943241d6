-- What is shown of an answer, and buffers that are filled whole.
use Rattle.std.proofs.Common.{◌≡◌, ℕ, zero, suc, ◌+◌, ◌/◌, ◌%◌, ◌^◌, ◌<◌, ◌==◌, ◌&&◌, Bool, true, false, cond, ltb, inl, inr, List, [], ◌∷◌, ◌++◌, map, length, get_or, take, drop, slice_index, Some, None, Option, sym, refl, ap, ◌∙◌, arith}
use Rattle.std.specs.Option.{option_map}
use Rattle.std.proofs.lemmas.List.{flat_map_more, map_more, take_all, take_at}
use Rattle.std.proofs.lemmas.Bool.{and_parts, cases_lt, eqb-true}
use Rattle.hex.specs.Hex.{encode_lower, encode_with, lower_digits}
use Rattle.base64_texts.specs.Base64Decoder.{filled}
use Rattle.escaping.specs.Answers.{counted}
use Rattle.writer.specs.Written.{written}
use Rattle.writer.proofs.Puts.{written-whole}
use Rattle.solderjade.specs.Shown.{hex_digit, hexed, lines_of, shown_bytes}

by_count : (n m : ℕ) (b : Bool) → Some m ≡ cond b (Some n) None → m ≡ n
by_count n m true e = cc
by_count n m false e = let z : ◌≡◌ {A = ℕ} 0 1 = cc in absurd (omega arith)

pub some_counted : (n m : ℕ) → Some m ≡ counted n → m ≡ n
some_counted n m e = by_count n m (ltb n (2 ^ 64)) e

-- a buffer of a text's own length, once the text is written into it
pub whole_written : (before out items s : List ℕ) (n : ℕ) → length before ≡ n → length s ≡ n → out ≡ written before 0 s → length out ≡ n → take n (out ++ drop (length out) items) ≡ s
whole_written before out items s n b h e o = take_at out (drop (length out) items) n o ∙ (e ∙ written-whole before s (h ∙ sym b))

-- ---- hexadecimal

-- the test of the first n digits of the table, which computes
abbrev all_digits : ℕ → Bool
all_digits zero = true
all_digits (suc n) = (slice_index lower_digits n == hex_digit n) && all_digits n

digit-at : (n k : ℕ) → all_digits n ≡ true → k < n → slice_index lower_digits k ≡ hex_digit k
digit-at zero k h lt = absurd (omega arith)
digit-at (suc n) k h lt =
    let parts = and_parts (slice_index lower_digits n == hex_digit n) (all_digits n) h in
    elim (cases_lt k n) [
      | inl below ↦ digit-at n k parts.1 below
      | inr top ↦
          let e : k ≡ n = omega arith in
          rw e (eqb-true (slice_index lower_digits n) (hex_digit n) parts.0)
    ]

-- what the library writes of bytes
pub encodes_hexed : (s : List ℕ) → ((i : ℕ) → get_or s i 0 < 256) → encode_lower s ≡ hexed s
unfolding hexed encode_with
encodes_hexed [] h = refl
encodes_hexed (b ∷ s) h =
    let low : b < 256 = h 0 in
    let one : slice_index lower_digits (b / 16) ≡ hex_digit (b / 16) = digit-at 16 (b / 16) refl (omega arith) in
    let two : slice_index lower_digits (b % 16) ≡ hex_digit (b % 16) = digit-at 16 (b % 16) refl (omega arith) in
    λ i. one i ∷ (two i ∷ encodes_hexed s (λ k. h (suc k)) i)

-- a buffer of the decoded length, once a text is decoded into it
pub whole_decoded : (o : Option (List ℕ)) (m n : ℕ) (before out items : List ℕ) → Some m ≡ option_map length o → n ≡ m → length before ≡ n → out ≡ filled o before → length out ≡ n → hexed (take n (out ++ drop (length out) items)) ≡ shown_bytes o
whole_decoded None m n before out items c a b e l = let z : ◌≡◌ {A = ℕ} 0 1 = cc in absurd (omega arith)
whole_decoded (Some bytes) m n before out items c a b e l =
    let same : m ≡ length bytes = cc in
    ap hexed (whole_written before out items bytes n b (omega arith) e l)

-- a line more
pub lines_more : {X : Type 0} (line : List ℕ → List ℕ) (word : X → List ℕ) (xs : List X) (i : ℕ) (x : X) {before after : List ℕ} → i < length xs → x ≡ get_or xs i x → before ≡ lines_of line (map word (take i xs)) → after ≡ before ++ (line (word x) ++ 10 ∷ []) → after ≡ lines_of line (map word (take (i + 1) xs))
lines_more line word xs i x {before} {after} h is b a =
    let step : map word (take (i + 1) xs) ≡ map word (take i xs) ++ word x ∷ [] = map_more word xs i x h ∙ ap (λ y. map word (take i xs) ++ word y ∷ []) (sym is) in
    a ∙ (ap (λ t. t ++ (line (word x) ++ 10 ∷ [])) b ∙ (flat_map_more (λ w. line w ++ 10 ∷ []) [] (map word (take i xs)) (word x) ∙ ap (lines_of line) (sym step)))

pub lines_all : {X : Type 0} (line : List ℕ → List ℕ) (word : X → List ℕ) (xs : List X) (i : ℕ) {after : List ℕ} → length xs ≡ i → after ≡ lines_of line (map word (take i xs)) → after ≡ lines_of line (map word xs)
lines_all line word xs i h e = e ∙ ap (λ t. lines_of line (map word t)) (take_all i xs (omega arith))
