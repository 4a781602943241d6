-- Decoding inverts encoding, and answers on nothing else.

use Rattle.std.proofs.Common.{◌≡◌, ℕ, ◌+◌, ◌*◌, ◌/◌, ◌%◌, ◌<◌, Bool, true, false, cond, eqb, ◌⊎◌, List, [], ◌∷◌, ◌++◌, Some, None, Option, sym, refl, ◌∙◌, inl, inr, ⊎_elim, arith}
use Rattle.std.specs.Option.{option_map}
use Rattle.std.specs.List.{AllByRecursion}
use Rattle.std.proofs.ByRecursion.{All-append}
use Rattle.std.proofs.lemmas.List.{append-nil}
use Rattle.std.proofs.lemmas.Bool.{eq-eqb, ne_eqb, cases_eq, false≢true}
use Rattle.base64_texts.specs.Base64.{sign, pad, encode, sextet, then, one_octet, two_octets, three_octets, quantum, ended, decoded, Base64Inverts}
use Rattle.base64_texts.proofs.Base64Signs.{sextet-sign, sign-sextet, sign_not_pad}

abbrev Bytes : List ℕ → Type 0
Bytes = AllByRecursion (λ x. x < 256)

-- the octets of signs whose six bits are given
abbrev one_by : Option ℕ → Option ℕ → Option (List ℕ)
one_by o u = then o (λ p. then u (λ q. cond (eqb (q % 16) 0) (Some ((p * 4 + q / 16) ∷ [])) None))

abbrev two_by : Option ℕ → Option ℕ → Option ℕ → Option (List ℕ)
two_by o u v =
    then o (λ p. then u (λ q. then v (λ r.
    cond (eqb (r % 4) 0) (Some ((p * 4 + q / 16) ∷ (q % 16 * 16 + r / 4) ∷ [])) None)))

abbrev three_by : Option ℕ → Option ℕ → Option ℕ → Option ℕ → Option (List ℕ)
three_by o u v w =
    then o (λ p. then u (λ q. then v (λ r. then w (λ s.
    Some ((p * 4 + q / 16) ∷ (q % 16 * 16 + r / 4) ∷ (r % 4 * 64 + s) ∷ [])))))

-- which of the three forms four signs have

full : (last : Bool) (a b c d : ℕ) → (d ≡ pad → ⊥) → quantum last a b c d ≡ three_octets a b c d
full true a b c d h = let f : eqb d pad ≡ false = ne_eqb d pad h in rw f refl
full false a b c d h = refl

padded : (a b c : ℕ) → (c ≡ pad → ⊥) → quantum true a b c pad ≡ two_octets a b c
padded a b c h = let f : eqb c pad ≡ false = ne_eqb c pad h in rw f refl

-- from bytes to signs and back

one_back : (o u : Option ℕ) (p q x : ℕ) → o ≡ Some p → u ≡ Some q → q % 16 ≡ 0 → p * 4 + q / 16 ≡ x → one_by o u ≡ Some (x ∷ [])
one_back o u p q x e f h k =
    let t : eqb (q % 16) 0 ≡ true = eq-eqb (q % 16) 0 h in
    rw (e, f, t, k) refl

two_back : (o u v : Option ℕ) (p q r x y : ℕ) → o ≡ Some p → u ≡ Some q → v ≡ Some r → r % 4 ≡ 0 → p * 4 + q / 16 ≡ x → q % 16 * 16 + r / 4 ≡ y
    → two_by o u v ≡ Some (x ∷ y ∷ [])
two_back o u v p q r x y e f g h k l =
    let t : eqb (r % 4) 0 ≡ true = eq-eqb (r % 4) 0 h in
    rw (e, f, g, t, k, l) refl

three_back : (o u v w : Option ℕ) (p q r s x y z : ℕ) → o ≡ Some p → u ≡ Some q → v ≡ Some r → w ≡ Some s
    → p * 4 + q / 16 ≡ x → q % 16 * 16 + r / 4 ≡ y → r % 4 * 64 + s ≡ z → three_by o u v w ≡ Some (x ∷ y ∷ z ∷ [])
three_back o u v w p q r s x y z e f g h k l m = rw (e, f, g, h, k, l, m) refl

one_encoded : (x : ℕ) → x < 256 → one_octet (sign (x / 4)) (sign (x % 4 * 16)) ≡ Some (x ∷ [])
one_encoded x h =
    one_back _ _ (x / 4) (x % 4 * 16) x (sextet-sign (x / 4) (omega arith)) (sextet-sign (x % 4 * 16) (omega arith)) (omega arith) (omega arith)

two_encoded : (x y : ℕ) → x < 256 → y < 256
    → quantum true (sign (x / 4)) (sign (x % 4 * 16 + y / 16)) (sign (y % 16 * 4)) pad ≡ Some (x ∷ y ∷ [])
two_encoded x y h k =
    padded (sign (x / 4)) (sign (x % 4 * 16 + y / 16)) (sign (y % 16 * 4)) (sign_not_pad (y % 16 * 4) (omega arith))
    ∙ two_back _ _ _ (x / 4) (x % 4 * 16 + y / 16) (y % 16 * 4) x y
    (sextet-sign (x / 4) (omega arith)) (sextet-sign (x % 4 * 16 + y / 16) (omega arith)) (sextet-sign (y % 16 * 4) (omega arith))
    (omega arith) (omega arith) (omega arith)

three_encoded : (last : Bool) (x y z : ℕ) → x < 256 → y < 256 → z < 256
    → quantum last (sign (x / 4)) (sign (x % 4 * 16 + y / 16)) (sign (y % 16 * 4 + z / 64)) (sign (z % 64)) ≡ Some (x ∷ y ∷ z ∷ [])
three_encoded last x y z h k l =
    full last (sign (x / 4)) (sign (x % 4 * 16 + y / 16)) (sign (y % 16 * 4 + z / 64)) (sign (z % 64)) (sign_not_pad (z % 64) (omega arith))
    ∙ three_back _ _ _ _ (x / 4) (x % 4 * 16 + y / 16) (y % 16 * 4 + z / 64) (z % 64) x y z
    (sextet-sign (x / 4) (omega arith)) (sextet-sign (x % 4 * 16 + y / 16) (omega arith)) (sextet-sign (y % 16 * 4 + z / 64) (omega arith)) (sextet-sign (z % 64) (omega arith))
    (omega arith) (omega arith) (omega arith)

-- the first four signs, before what follows
before : (o : Option (List ℕ)) (bytes more : List ℕ) (m : Option (List ℕ)) → o ≡ Some bytes → m ≡ Some more
    → then o (λ front. option_map (λ rest. front ++ rest) m) ≡ Some (bytes ++ more)
before o bytes more m e f = rw (e, f) refl

decodes_encoded : (bytes : List ℕ) → Bytes bytes → decoded (encode bytes) ≡ Some bytes
unfolding decoded encode
decodes_encoded [] h = refl
decodes_encoded (x ∷ []) h = before _ (x ∷ []) [] (Some []) (one_encoded x h.0) refl
decodes_encoded (x ∷ y ∷ []) h = before _ (x ∷ y ∷ []) [] (Some []) (two_encoded x y h.0 h.1.0) refl
decodes_encoded (x ∷ y ∷ z ∷ rest) h =
    before _ (x ∷ y ∷ z ∷ []) rest (decoded (encode rest)) (three_encoded (ended (encode rest)) x y z h.0 h.1.0 h.1.1.0)
    (decodes_encoded rest h.1.1.1)

-- from signs to bytes and back

one_parts : (o u : Option ℕ) (bytes : List ℕ) → one_by o u ≡ Some bytes
    → (p : ℕ) × (q : ℕ) × (o ≡ Some p) × (u ≡ Some q) × (q % 16 ≡ 0) × (bytes ≡ (p * 4 + q / 16) ∷ [])
one_parts None u bytes e = absurd cc
one_parts (Some p) None bytes e = absurd cc
one_parts (Some p) (Some q) bytes e =
    ⊎_elim
    (λ h. let t : eqb (q % 16) 0 ≡ true = eq-eqb (q % 16) 0 h in let g = rw t at e in (p, q, refl, refl, h, cc))
    (λ h. let t : eqb (q % 16) 0 ≡ false = ne_eqb (q % 16) 0 h in let g = rw t at e in absurd cc)
    (cases_eq (q % 16) 0)

two_parts : (o u v : Option ℕ) (bytes : List ℕ) → two_by o u v ≡ Some bytes
    → (p : ℕ) × (q : ℕ) × (r : ℕ) × (o ≡ Some p) × (u ≡ Some q) × (v ≡ Some r) × (r % 4 ≡ 0) × (bytes ≡ (p * 4 + q / 16) ∷ (q % 16 * 16 + r / 4) ∷ [])
two_parts None u v bytes e = absurd cc
two_parts (Some p) None v bytes e = absurd cc
two_parts (Some p) (Some q) None bytes e = absurd cc
two_parts (Some p) (Some q) (Some r) bytes e =
    ⊎_elim
    (λ h. let t : eqb (r % 4) 0 ≡ true = eq-eqb (r % 4) 0 h in let g = rw t at e in (p, q, r, refl, refl, refl, h, cc))
    (λ h. let t : eqb (r % 4) 0 ≡ false = ne_eqb (r % 4) 0 h in let g = rw t at e in absurd cc)
    (cases_eq (r % 4) 0)

three_parts : (o u v w : Option ℕ) (bytes : List ℕ) → three_by o u v w ≡ Some bytes
    → (p : ℕ) × (q : ℕ) × (r : ℕ) × (s : ℕ) × (o ≡ Some p) × (u ≡ Some q) × (v ≡ Some r) × (w ≡ Some s)
    × (bytes ≡ (p * 4 + q / 16) ∷ (q % 16 * 16 + r / 4) ∷ (r % 4 * 64 + s) ∷ [])
three_parts None u v w bytes e = absurd cc
three_parts (Some p) None v w bytes e = absurd cc
three_parts (Some p) (Some q) None w bytes e = absurd cc
three_parts (Some p) (Some q) (Some r) None bytes e = absurd cc
three_parts (Some p) (Some q) (Some r) (Some s) bytes e = (p, q, r, s, refl, refl, refl, refl, cc)

one_signs : (a b p q : ℕ) → (sign p ≡ a) × (p < 64) → (sign q ≡ b) × (q < 64) → q % 16 ≡ 0
    → (encode ((p * 4 + q / 16) ∷ []) ≡ a ∷ b ∷ pad ∷ pad ∷ []) × Bytes ((p * 4 + q / 16) ∷ [])
unfolding encode
one_signs a b p q (e, i) (f, j) h =
    let k : (p * 4 + q / 16) / 4 ≡ p = omega arith in
    let l : (p * 4 + q / 16) % 4 * 16 ≡ q = omega arith in
    (rw (k, l, e, f) refl, (omega arith, tt))

two_signs : (a b c p q r : ℕ) → (sign p ≡ a) × (p < 64) → (sign q ≡ b) × (q < 64) → (sign r ≡ c) × (r < 64) → r % 4 ≡ 0
    → (encode ((p * 4 + q / 16) ∷ (q % 16 * 16 + r / 4) ∷ []) ≡ a ∷ b ∷ c ∷ pad ∷ []) × Bytes ((p * 4 + q / 16) ∷ (q % 16 * 16 + r / 4) ∷ [])
unfolding encode
two_signs a b c p q r (e, i) (f, j) (g, k) h =
    let l : (p * 4 + q / 16) / 4 ≡ p = omega arith in
    let m : (p * 4 + q / 16) % 4 * 16 + (q % 16 * 16 + r / 4) / 16 ≡ q = omega arith in
    let n : (q % 16 * 16 + r / 4) % 16 * 4 ≡ r = omega arith in
    (rw (l, m, n, e, f, g) refl, (omega arith, (omega arith, tt)))

three_signs : (a b c d p q r s : ℕ) → (sign p ≡ a) × (p < 64) → (sign q ≡ b) × (q < 64) → (sign r ≡ c) × (r < 64) → (sign s ≡ d) × (s < 64)
    → ((more : List ℕ) → encode ((p * 4 + q / 16) ∷ (q % 16 * 16 + r / 4) ∷ (r % 4 * 64 + s) ∷ more) ≡ a ∷ b ∷ c ∷ d ∷ encode more)
    × Bytes ((p * 4 + q / 16) ∷ (q % 16 * 16 + r / 4) ∷ (r % 4 * 64 + s) ∷ [])
unfolding encode
three_signs a b c d p q r s (e, i) (f, j) (g, k) (h, l) =
    let m : (p * 4 + q / 16) / 4 ≡ p = omega arith in
    let n : (p * 4 + q / 16) % 4 * 16 + (q % 16 * 16 + r / 4) / 16 ≡ q = omega arith in
    let o : (q % 16 * 16 + r / 4) % 16 * 4 + (r % 4 * 64 + s) / 64 ≡ r = omega arith in
    let t : (r % 4 * 64 + s) % 64 ≡ s = omega arith in
    ((λ more. rw (m, n, o, t, e, f, g, h) refl), (omega arith, (omega arith, (omega arith, tt))))

-- the text of the bytes of four signs: the four, and nothing behind them where they are padded
abbrev Front : Bool → ℕ → ℕ → ℕ → ℕ → List ℕ → Type 0
Front last a b c d bytes =
    ((last ≡ true) × (encode bytes ≡ a ∷ b ∷ c ∷ d ∷ []))
    ⊎ ((more : List ℕ) → encode (bytes ++ more) ≡ a ∷ b ∷ c ∷ d ∷ encode more)

one_front : (a b : ℕ) (bytes : List ℕ) → one_octet a b ≡ Some bytes → Front true a b pad pad bytes × Bytes bytes
one_front a b bytes e =
    let (p, q, i, j, h, k) = one_parts (sextet a) (sextet b) bytes e in
    let (t, all) = one_signs a b p q (sign-sextet a p i) (sign-sextet b q j) h in
    rw k (inl (refl, t), all)

two_front : (a b c : ℕ) (bytes : List ℕ) → two_octets a b c ≡ Some bytes → Front true a b c pad bytes × Bytes bytes
two_front a b c bytes e =
    let (p, q, r, i, j, l, h, k) = two_parts (sextet a) (sextet b) (sextet c) bytes e in
    let (t, all) = two_signs a b c p q r (sign-sextet a p i) (sign-sextet b q j) (sign-sextet c r l) h in
    rw k (inl (refl, t), all)

three_front : (last : Bool) (a b c d : ℕ) (bytes : List ℕ) → three_octets a b c d ≡ Some bytes → Front last a b c d bytes × Bytes bytes
three_front last a b c d bytes e =
    let (p, q, r, s, i, j, l, m, k) = three_parts (sextet a) (sextet b) (sextet c) (sextet d) bytes e in
    let (t, all) = three_signs a b c d p q r s (sign-sextet a p i) (sign-sextet b q j) (sign-sextet c r l) (sign-sextet d s m) in
    rw k (inr t, all)

last_signs : (a b c d : ℕ) (bytes : List ℕ) → (d ≡ pad) ⊎ (d ≡ pad → ⊥) → (c ≡ pad) ⊎ (c ≡ pad → ⊥)
    → quantum true a b c d ≡ Some bytes → Front true a b c d bytes × Bytes bytes
last_signs a b c d bytes (inl dp) (inl cp) e = rw (cp, dp) (one_front a b bytes (rw (cp, dp) at e))
last_signs a b c d bytes (inl dp) (inr cn) e = rw dp (two_front a b c bytes (sym (padded a b c cn) ∙ rw dp at e))
last_signs a b c d bytes (inr dn) either e = three_front true a b c d bytes (sym (full true a b c d dn) ∙ e)

front_signs : (last : Bool) (a b c d : ℕ) (bytes : List ℕ) → quantum last a b c d ≡ Some bytes → Front last a b c d bytes × Bytes bytes
front_signs false a b c d bytes e = three_front false a b c d bytes e
front_signs true a b c d bytes e = last_signs a b c d bytes (cases_eq d pad) (cases_eq c pad) e

-- four signs and the rest

then-parts : (o m : Option (List ℕ)) (bytes : List ℕ) → then o (λ front. option_map (λ rest. front ++ rest) m) ≡ Some bytes
    → (front : List ℕ) × (more : List ℕ) × (o ≡ Some front) × (m ≡ Some more) × (bytes ≡ front ++ more)
then-parts None m bytes e = absurd cc
then-parts (Some front) None bytes e = absurd cc
then-parts (Some front) (Some more) bytes e = (front, more, refl, refl, cc)

text_of : (a b c d : ℕ) (rest front more : List ℕ) → Front (ended rest) a b c d front → decoded rest ≡ Some more → encode more ≡ rest
    → encode (front ++ more) ≡ a ∷ b ∷ c ∷ d ∷ rest
unfolding decoded
text_of a b c d [] front more (inl (h, t)) e f = let n : more ≡ [] = cc in rw (n, append-nil front) t
text_of a b c d [] front more (inr g) e f = g more ∙ rw f refl
text_of a b c d (x ∷ rest) front more (inl (h, t)) e f = absurd (false≢true h)
text_of a b c d (x ∷ rest) front more (inr g) e f = g more ∙ rw f refl

encodes_decoded : (text bytes : List ℕ) → decoded text ≡ Some bytes → (encode bytes ≡ text) × Bytes bytes
unfolding decoded encode
encodes_decoded [] bytes e = let n : bytes ≡ [] = cc in rw n (refl, tt)
encodes_decoded (a ∷ []) bytes e = absurd cc
encodes_decoded (a ∷ b ∷ []) bytes e = absurd cc
encodes_decoded (a ∷ b ∷ c ∷ []) bytes e = absurd cc
encodes_decoded (a ∷ b ∷ c ∷ d ∷ rest) bytes e =
    let (front, more, i, j, k) = then-parts (quantum (ended rest) a b c d) (decoded rest) bytes e in
    let (t, all) = encodes_decoded rest more j in
    let (f, some) = front_signs (ended rest) a b c d front i in
    rw k (text_of a b c d rest front more f j t, All-append (λ x. x < 256) front more some all)

pub base64_inverts : Base64Inverts
base64_inverts =
    record {
      decodes_encoded = decodes_encoded;
      encodes_decoded = encodes_decoded;
      one_text = λ text other bytes e f. sym (encodes_decoded text bytes e).0 ∙ (encodes_decoded other bytes f).0;
    }
