-- A character of a string is a character of a text, however it was escaped, and the text escapes it no longer.
use Rattle.std.proofs.Common.{◌≡◌, ℕ, ◌+◌, ◌/◌, ◌<◌, ◌≤◌, Bool, true, false, cond, not, ◌&&◌, ◌||◌, eqb, ltb, leb, ◌⊎◌, List, [], ◌∷◌, ◌++◌, length, Some, None, Option, refl, ap, subst, inl, inr, ⊎_elim, append-nil, arith}
use lib.Utf8.{encode, next}
use Rattle.json_scanner.specs.Grammar.{Character, Chars, CodeUnit, Raw, hex, hexed, low, pair, second, simple, surrogate, tail}
use Rattle.json_writer.proofs.Back.{joined_append, raw_kept, unit_escape-length}
use Rattle.json_writer.specs.Back.{Letter, Letters, marked}
use Rattle.json_writer.specs.Compact.{control_escape, escaped, short_letter}
use Rattle.std.proofs.lemmas.List.{length-append}
use Rattle.std.proofs.lemmas.Bool.{and_cases, and_from, cases_Bool, cond_both, eqb-true, le-leb, leb-false, lt-ltb, ltb-false, ltb-true, not_from_false, or_parts}
use Rattle.std.proofs.lemmas.Bool.Decides.{nat_tests}
use Rattle.std.specs.List.{flat_map}

-- c is a character, of which at most n bytes are written
abbrev pub Spelt : List ℕ → ℕ → Type 0
Spelt c n = Letter c × (length (flat_map escaped c) ≤ n)

-- ---- lengths

raw_short : {w : List ℕ} → Raw w → length w ≤ 4
raw_short (Raw.one b p) = omega arith
raw_short (Raw.two a b l t) = omega arith
raw_short (Raw.three a b c l s t) = omega arith
raw_short (Raw.four a b c d l s t u) = omega arith

control_short : (b : ℕ) (letter : Option ℕ) → length (control_escape b letter) ≤ 6
control_short b None = omega (arith, unit_escape-length b)
control_short b (Some letter) = omega arith

escaped_short : (b : ℕ) → length (escaped b) ≤ 6
escaped_short b = by (ltb b 32) (eqb b 34) (eqb b 92)
  where
    by : (p q r : Bool) → length (cond p (control_escape b (short_letter b)) (cond q (92 ∷ 34 ∷ []) (cond r (92 ∷ 92 ∷ []) (b ∷ [])))) ≤ 6
    by true q r = control_short b (short_letter b)
    by false true r = omega arith
    by false false true = omega arith
    by false false false = omega arith

letter_short : {w : List ℕ} → Letter w → length (flat_map escaped w) ≤ 6
letter_short (Letter.raw r) = omega (arith, ap length (raw_kept r), raw_short r)
letter_short (Letter.mark b m) = omega (arith, ap length (append-nil (escaped b)), escaped_short b)

-- ---- short escapes

simple_spelt : (b c : ℕ) → simple b ≡ Some c → Spelt (c ∷ []) 2
simple_spelt b c e = by (eqb b 34) (eqb b 92) (eqb b 47) (eqb b 98) (eqb b 102) (eqb b 110) (eqb b 114) (eqb b 116) e
  where
    same : (x : ℕ) → Some x ≡ Some c → Spelt (x ∷ []) 2 → Spelt (c ∷ []) 2
    same x e h = let q : x ≡ c = cc in subst (λ y. Spelt (y ∷ []) 2) q h

    by : (p q r s t u v w : Bool) → cond p (Some 34) (cond q (Some 92) (cond r (Some 47) (cond s (Some 8) (cond t (Some 12) (cond u (Some 10) (cond v (Some 13) (cond w (Some 9) None))))))) ≡ Some c → Spelt (c ∷ []) 2
    by true q r s t u v w e = same 34 e (Letter.mark 34 refl, omega arith)
    by false true r s t u v w e = same 92 e (Letter.mark 92 refl, omega arith)
    by false false true s t u v w e = same 47 e (Letter.raw (Raw.one 47 refl), omega arith)
    by false false false true t u v w e = same 8 e (Letter.mark 8 refl, omega arith)
    by false false false false true u v w e = same 12 e (Letter.mark 12 refl, omega arith)
    by false false false false false true v w e = same 10 e (Letter.mark 10 refl, omega arith)
    by false false false false false false true w e = same 13 e (Letter.mark 13 refl, omega arith)
    by false false false false false false false true e = same 9 e (Letter.mark 9 refl, omega arith)
    by false false false false false false false false e = absurd (let z : ◌≡◌ {A = ℕ} 0 1 = cc in omega arith)

-- ---- characters by their numbers

one_byte : (u : ℕ) → u < 128 → Letter (u ∷ [])
one_byte u lt = ⊎_elim
    (λ (m : marked u ≡ true). Letter.mark u m)
    (λ (m : marked u ≡ false).
    let two = or_parts (ltb u 32) (eqb u 34 || eqb u 92) m in
    let three = or_parts (eqb u 34) (eqb u 92) two.1 in
    Letter.raw (Raw.one u (and_from (leb 32 u) (ltb u 128 && (not (eqb u 34) && not (eqb u 92))) (le-leb 32 u (ltb-false u 32 two.0))
    (and_from (ltb u 128) (not (eqb u 34) && not (eqb u 92)) (lt-ltb u 128 lt)
    (and_from (not (eqb u 34)) (not (eqb u 92)) (not_from_false (eqb u 34) three.0) (not_from_false (eqb u 92) three.1))))))
    (cases_Bool (marked u))

between : (low up a : ℕ) → low ≤ a → a ≤ up → (leb low a && leb a up) ≡ true
between low up a h k = and_from (leb low a) (leb a up) (le-leb low a h) (le-leb a up k)

tail-next : (u : ℕ) → tail (next u) ≡ true
tail-next u = between 128 191 (next u) (omega arith) (omega arith)

-- the second byte of three or four, by its limits
second_by : (a b : ℕ) → 128 ≤ b → b ≤ 191 → (a ≡ 224 → 160 ≤ b) → (a ≡ 237 → b ≤ 159) → (a ≡ 240 → 144 ≤ b) → (a ≡ 244 → b ≤ 143) → second a b ≡ true
second_by a b l u p q r s =
    cond_both (eqb a 224) _ _ (λ x. x ≡ true) (λ e. between 160 191 b (p (eqb-true a 224 e)) u)
    (λ _. cond_both (eqb a 237) _ _ (λ x. x ≡ true) (λ e. between 128 159 b l (q (eqb-true a 237 e)))
    (λ _. cond_both (eqb a 240) _ _ (λ x. x ≡ true) (λ e. between 144 191 b (r (eqb-true a 240 e)) u)
    (λ _. cond_both (eqb a 244) _ _ (λ x. x ≡ true) (λ e. between 128 143 b l (s (eqb-true a 244 e)))
    (λ _. between 128 191 b l u))))

two_bytes : (u : ℕ) → 128 ≤ u → u < 2048 → Letter ((192 + u / 64) ∷ next u ∷ [])
two_bytes u low up = Letter.raw (Raw.two (192 + u / 64) (next u) (between 194 223 (192 + u / 64) (omega arith) (omega arith)) (tail-next u))

three_bytes : (u : ℕ) → 2048 ≤ u → u < 65536 → (u < 55296) ⊎ (57344 ≤ u) → Letter ((224 + u / 4096) ∷ next (u / 64) ∷ next u ∷ [])
three_bytes u low up no-half =
    Letter.raw (Raw.three (224 + u / 4096) (next (u / 64)) (next u) (between 224 239 (224 + u / 4096) (omega arith) (omega arith))
    (second_by (224 + u / 4096) (next (u / 64)) (omega arith) (omega arith) (λ e. omega arith) (λ e. omega arith) (λ e. omega arith) (λ e. omega arith))
    (tail-next u))

four_bytes : (u : ℕ) → 65536 ≤ u → u < 1114112 → Letter ((240 + u / 262144) ∷ next (u / 4096) ∷ next (u / 64) ∷ next u ∷ [])
four_bytes u low up =
    Letter.raw (Raw.four (240 + u / 262144) (next (u / 4096)) (next (u / 64)) (next u) (between 240 244 (240 + u / 262144) (omega arith) (omega arith))
    (second_by (240 + u / 262144) (next (u / 4096)) (omega arith) (omega arith) (λ e. omega arith) (λ e. omega arith) (λ e. omega arith) (λ e. omega arith))
    (tail-next (u / 64)) (tail-next u))

encoded : (u : ℕ) → u < 1114112 → (u < 55296) ⊎ (57344 ≤ u) → Letter (encode u)
unfolding encode
encoded u up no-half =
    cond_both (ltb u 128) _ _ Letter (λ e. one_byte u (omega (arith, ltb-true u 128 e)))
    (λ n. cond_both (ltb u 2048) _ _ Letter (λ e. two_bytes u (ltb-false u 128 n) (ltb-true u 2048 e))
    (λ n. cond_both (ltb u 65536) _ _ Letter (λ e. three_bytes u (ltb-false u 2048 n) (ltb-true u 65536 e) no-half)
    (λ n. four_bytes u (ltb-false u 65536 n) up)))

-- ---- code units

digit_below : (a : ℕ) → hex a ≡ true → hexed a < 16
digit_below a h = grind (arith, nat_tests)

unit-below : {u : ℕ} {w : List ℕ} → CodeUnit u w → (u < 65536) × (length w ≡ 6)
unit-below (CodeUnit.digits a b c d ha hb hc hd) =
    let p = digit_below a ha in
    let q = digit_below b hb in
    let r = digit_below c hc in
    let s = digit_below d hd in
    (omega arith, refl)

alone : (u : ℕ) → surrogate u ≡ false → (u < 55296) ⊎ (57344 ≤ u)
alone u h = ⊎_elim (λ e. inl (leb-false 55296 u e)) (λ e. inr (ltb-false u 57344 e)) (and_cases (leb 55296 u) (ltb u 57344) h)

single_spelt : {u : ℕ} {w : List ℕ} → CodeUnit u w → surrogate u ≡ false → Spelt (encode u) (length w)
single_spelt {u} cu h =
    let b = unit-below cu in
    let l : Letter (encode u) = encoded u (omega (arith, b.0)) (alone u h) in
    (l, omega (arith, letter_short l, b.1))

twins_spelt : {h l : ℕ} {w x : List ℕ} → CodeUnit h w → CodeUnit l x → Spelt (encode (pair h l)) (length (w ++ x))
twins_spelt {h} {l} {w} {x} ch cl =
    let b = unit-below ch in
    let p : Letter (encode (pair h l)) = encoded (pair h l) (omega arith) (inr (omega arith)) in
    (p, omega (arith, letter_short p, b.1, length-append w x))

-- ---- texts

character_spelt : {c w : List ℕ} → Character c w → Spelt c (length w)
character_spelt (Character.raw {w} r) = (Letter.raw r, omega (arith, ap length (raw_kept r)))
character_spelt (Character.escape b c e) = simple_spelt b c e
character_spelt (Character.single cu h) = single_spelt cu h
character_spelt (Character.twins ch h cl l) = twins_spelt ch cl

-- the inside of a string is a text of characters, and is written no longer
pub chars_spelt : {cs s : List ℕ} → Chars cs s → Letters cs × (length (flat_map escaped cs) ≤ length s)
chars_spelt Chars.none = (Letters.none, omega arith)
chars_spelt (Chars.more {cs} {s} {c} {w} ch x) =
    let ih = chars_spelt ch in
    let sp = character_spelt x in
    (Letters.more ih.0 sp.0, omega (arith, ih.1, sp.1, ap length (joined_append cs c), length-append (flat_map escaped cs) (flat_map escaped c), length-append s w))
