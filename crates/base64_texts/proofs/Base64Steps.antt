-- A text, four signs at a time, as the loops take it.

use Rattle.std.proofs.Common.{◌≡◌, ℕ, suc, ◌+◌, ◌<◌, ◌≤◌, Bool, true, eqb, List, [], ◌∷◌, ◌++◌, length, get_or, take, drop, is_some, Some, None, Option, unwrap_or, sym, refl, ap, ◌∙◌, add_assoc, add-zero, arith, length-append}
use Rattle.std.specs.Option.{option_map}
use Rattle.std.specs.Bool.{then_some}
use Rattle.std.proofs.lemmas.Bool.{ne_eqb, false≢true}
use Rattle.base64_texts.specs.Base64.{decoded, ended, quantum, then}
use Rattle.base64_texts.specs.Base64Decoder.{bytes_of}

-- the bytes that four signs gave, and then those of the rest
abbrev pub joined : Option (List ℕ) → List ℕ → Option (List ℕ)
joined o rest = then o (λ bytes. option_map (λ more. bytes ++ more) (decoded rest))

empty_ended : (s : List ℕ) → eqb (length s) 0 ≡ ended s
empty_ended [] = refl
empty_ended (x ∷ xs) = ne_eqb (suc (length xs)) 0 (λ e. omega arith)

split : (s : List ℕ) → 4 ≤ length s
    → decoded s ≡ joined (quantum (eqb (length (drop 4 s)) 0) (get_or (take 4 s) 0 0) (get_or (take 4 s) 1 0) (get_or (take 4 s) 2 0) (get_or (take 4 s) 3 0)) (drop 4 s)
unfolding decoded
split [] h = absurd (omega arith)
split (a ∷ []) h = absurd (omega arith)
split (a ∷ b ∷ []) h = absurd (omega arith)
split (a ∷ b ∷ c ∷ []) h = absurd (omega arith)
split (a ∷ b ∷ c ∷ d ∷ s) h = rw (empty_ended s) refl

-- what `split_first_chunk` took, and what its signs gave
pub decoded-split : (s signs rest : List ℕ) (last : Bool) (o : Option (List ℕ)) → signs ≡ take 4 s → rest ≡ drop 4 s → length rest + 4 ≡ length s → last ≡ eqb (length rest) 0
    → o ≡ quantum last (get_or signs 0 0) (get_or signs 1 0) (get_or signs 2 0) (get_or signs 3 0) → decoded s ≡ joined o rest
decoded-split s signs rest last o head tail long ends given = rw (given, ends, head, tail) (split s (omega arith))

-- what is counted of four signs, and what is yet to be counted of the rest
pub counted_more : (all : Option ℕ) (o m : Option (List ℕ)) (bytes : List ℕ) (k n : ℕ) → all ≡ option_map (λ (more : List ℕ). k + length more) o → o ≡ option_map (λ more. bytes ++ more) m → n ≡ length bytes
    → all ≡ option_map (λ (more : List ℕ). k + n + length more) m
counted_more all o None bytes k n p q e = rw (p, q)
counted_more all o (Some more) bytes k n p q e = rw (p, q, e, length-append, add_assoc)

-- fewer than four signs are base64 only where there is none
pub counted_end : (all : Option ℕ) (s : List ℕ) (k : ℕ) → length s < 4 → all ≡ option_map (λ (more : List ℕ). k + length more) (decoded s) → then_some (eqb (length s) 0) k ≡ all
unfolding decoded
counted_end all [] k few p = rw (p, add-zero)
counted_end all (a ∷ []) k few p = rw p
counted_end all (a ∷ b ∷ []) k few p = rw p
counted_end all (a ∷ b ∷ c ∷ []) k few p = rw p
counted_end all (a ∷ b ∷ c ∷ d ∷ s) k few p = absurd (omega arith)

pub bytes_end : (s : List ℕ) → length s < 4 → bytes_of s ≡ []
unfolding decoded
bytes_end [] few = refl
bytes_end (a ∷ []) few = refl
bytes_end (a ∷ b ∷ []) few = refl
bytes_end (a ∷ b ∷ c ∷ []) few = refl
bytes_end (a ∷ b ∷ c ∷ d ∷ s) few = absurd (omega arith)

-- the four signs of a text that is base64 are too, and so is the rest; their bytes come first
module _ (s signs rest : List ℕ) (last : Bool) where
  pub some_group : signs ≡ take 4 s → rest ≡ drop 4 s → length rest + 4 ≡ length s → last ≡ eqb (length rest) 0
      → None ≡ quantum last (get_or signs 0 0) (get_or signs 1 0) (get_or signs 2 0) (get_or signs 3 0) → is_some (decoded s) ≡ true → ⊥
  some_group head tail long ends none some = false≢true (sym (ap is_some (decoded-split s signs rest last None head tail long ends none)) ∙ some)

  by_rest : (o m : Option (List ℕ)) (bytes : List ℕ) → o ≡ option_map (λ more. bytes ++ more) m → is_some o ≡ true → (is_some m ≡ true) × (unwrap_or o [] ≡ bytes ++ unwrap_or m [])
  by_rest o None bytes e some = absurd (false≢true (sym (ap is_some e) ∙ some))
  by_rest o (Some more) bytes e some = (refl, rw e)

  pub some_more : (bytes : List ℕ) → signs ≡ take 4 s → rest ≡ drop 4 s → length rest + 4 ≡ length s → last ≡ eqb (length rest) 0
      → Some bytes ≡ quantum last (get_or signs 0 0) (get_or signs 1 0) (get_or signs 2 0) (get_or signs 3 0) → is_some (decoded s) ≡ true
      → (is_some (decoded rest) ≡ true) × (bytes_of s ≡ bytes ++ bytes_of rest)
  some_more bytes head tail long ends given some = by_rest (decoded s) (decoded rest) bytes (decoded-split s signs rest last (Some bytes) head tail long ends given) some
