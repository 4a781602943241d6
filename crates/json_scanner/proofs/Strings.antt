-- A string that is being read, by the grammar, and how it can be completed.
use Rattle.std.proofs.Common.{◌≡◌, ℕ, ◌<◌, true, false, cond, ◌&&◌, eqb, leb, ◌⊎◌, List, [], ◌∷◌, ◌++◌, Some, None, Option, sym, refl, ◌∙◌, subst, inl, inr, append_assoc, append-nil, arith}
use lib.Utf8.{scalar}
use Rattle.std.proofs.lemmas.Bool.{cond_both, cases_Bool, false≢true}
use Rattle.std.proofs.lemmas.Bool.Decides.{nat_tests}
use Rattle.json_scanner.specs.declared.modes.Tail.TheVariants as tails
use Rattle.json_scanner.specs.declared.modes.Hex.TheVariants as hexes
use Rattle.json_scanner.specs.declared.modes.Inside.{Inside}
use Rattle.json_scanner.specs.declared.modes.Inside.TheVariants as inside
use Rattle.json_scanner.specs.declared.modes.Piece.{Piece}
use Rattle.json_scanner.specs.Grammar.{plain, lead2, lead3, lead4, tail, second, simple, hex, hexed, unit, high, low, surrogate, Raw, CodeUnit, Character, Chars}
use Rattle.json_scanner.specs.Bytes.{Spelling, led, escaped_by, spelled, closing}
use Rattle.json_scanner.specs.Machine.{bytes_of}

-- the text with a piece more
abbrev pub added : List ℕ → Option Piece → List ℕ
added cs None = cs
added cs (Some p) = cs ++ bytes_of p

-- the inside of a string so far, with the text that it has added
pub data TextPart : Inside → List ℕ → List ℕ → Type 0 where
  between : {cs s : List ℕ} → Chars cs s → TextPart inside.Plain cs s
  raw1 : {cs s : List ℕ} (w : List ℕ) → Chars cs s → ((c : ℕ) → tail c ≡ true → Raw (w ++ c ∷ [])) → TextPart (inside.Raw tails.One) (cs ++ w) (s ++ w)
  raw2 : {cs s : List ℕ} (w : List ℕ) → Chars cs s → ((c d : ℕ) → tail c ≡ true → tail d ≡ true → Raw (w ++ c ∷ d ∷ [])) → TextPart (inside.Raw tails.Two) (cs ++ w) (s ++ w)
  raw3 : {cs s : List ℕ} (a : ℕ) → Chars cs s → lead3 a ≡ true → TextPart (inside.Raw (tails.SecondOfThree a)) (cs ++ a ∷ []) (s ++ a ∷ [])
  raw4 : {cs s : List ℕ} (a : ℕ) → Chars cs s → lead4 a ≡ true → TextPart (inside.Raw (tails.SecondOfFour a)) (cs ++ a ∷ []) (s ++ a ∷ [])
  slash : {cs s : List ℕ} → Chars cs s → TextPart inside.Escape cs (s ++ 92 ∷ [])
  unit0 : {cs s : List ℕ} → Chars cs s → TextPart (inside.Unit hexes.Zero) cs (s ++ 92 ∷ 117 ∷ [])
  unit1 : {cs s : List ℕ} (a : ℕ) → Chars cs s → hex a ≡ true → TextPart (inside.Unit (hexes.One (hexed a))) cs (s ++ 92 ∷ 117 ∷ a ∷ [])
  unit2 : {cs s : List ℕ} (a b : ℕ) → Chars cs s → hex a ≡ true → hex b ≡ true → (eqb (hexed a) 13 && leb 12 (hexed b)) ≡ false
      → TextPart (inside.Unit (hexes.Two (hexed a) (hexed b))) cs (s ++ 92 ∷ 117 ∷ a ∷ b ∷ [])
  unit3 : {cs s : List ℕ} (a b c : ℕ) → Chars cs s → hex a ≡ true → hex b ≡ true → (eqb (hexed a) 13 && leb 12 (hexed b)) ≡ false → hex c ≡ true
      → TextPart (inside.Unit (hexes.Three (hexed a) (hexed b) (hexed c))) cs (s ++ 92 ∷ 117 ∷ a ∷ b ∷ c ∷ [])
  high-unit : {cs s w : List ℕ} {h : ℕ} → Chars cs s → CodeUnit h w → high h ≡ true → TextPart (inside.High h) cs (s ++ w)
  high_slash : {cs s w : List ℕ} {h : ℕ} → Chars cs s → CodeUnit h w → high h ≡ true → TextPart (inside.HighEscape h) cs (s ++ (w ++ 92 ∷ []))
  low0 : {cs s w : List ℕ} {h : ℕ} → Chars cs s → CodeUnit h w → high h ≡ true → TextPart (inside.Low h hexes.Zero) cs (s ++ (w ++ 92 ∷ 117 ∷ []))
  low1 : {cs s w : List ℕ} {h : ℕ} (a : ℕ) → Chars cs s → CodeUnit h w → high h ≡ true → hex a ≡ true → eqb (hexed a) 13 ≡ true
      → TextPart (inside.Low h (hexes.One (hexed a))) cs (s ++ (w ++ 92 ∷ 117 ∷ a ∷ []))
  low2 : {cs s w : List ℕ} {h : ℕ} (a b : ℕ) → Chars cs s → CodeUnit h w → high h ≡ true → hex a ≡ true → eqb (hexed a) 13 ≡ true → hex b ≡ true → leb 12 (hexed b) ≡ true
      → TextPart (inside.Low h (hexes.Two (hexed a) (hexed b))) cs (s ++ (w ++ 92 ∷ 117 ∷ a ∷ b ∷ []))
  low3 : {cs s w : List ℕ} {h : ℕ} (a b c : ℕ) → Chars cs s → CodeUnit h w → high h ≡ true → hex a ≡ true → eqb (hexed a) 13 ≡ true → hex b ≡ true → leb 12 (hexed b) ≡ true → hex c ≡ true
      → TextPart (inside.Low h (hexes.Three (hexed a) (hexed b) (hexed c))) cs (s ++ (w ++ 92 ∷ 117 ∷ a ∷ b ∷ c ∷ []))

pub hex_small : (b : ℕ) → hex b ≡ true → hexed b < 16
hex_small b e = grind (arith, nat_tests)

pub unit_small : (a b c d : ℕ) → hex a ≡ true → hex b ≡ true → hex c ≡ true → hex d ≡ true → unit (hexed a) (hexed b) (hexed c) (hexed d) < 65536
unit_small a b c d ha hb hc hd = omega (arith, hex_small a ha, hex_small b hb, hex_small c hc, hex_small d hd)

-- which units are characters or surrogates
pub scalar-alone : (u : ℕ) → scalar u ≡ true → surrogate u ≡ false
scalar-alone u e = grind (arith, nat_tests)

pub unit-high : (x y z w : ℕ) → x < 16 → y < 16 → z < 16 → w < 16 → (eqb x 13 && leb 12 y) ≡ false → scalar (unit x y z w) ≡ false → high (unit x y z w) ≡ true
unit-high x y z w hx hy hz hw a b = grind (arith, nat_tests)

pub unit-low : (x y z w : ℕ) → y < 16 → z < 16 → w < 16 → eqb x 13 ≡ true → leb 12 y ≡ true → low (unit x y z w) ≡ true
unit-low x y z w hy hz hw a b = grind (arith, nat_tests)

-- what a byte makes of a string
abbrev pub Grown : List ℕ → List ℕ → ℕ → Spelling → Type 0
Grown cs s b None = Unit {0}
Grown cs s b (Some x) = TextPart x.at (added cs x.piece) (s ++ b ∷ [])

-- the same string, written otherwise
alike : {x : Inside} {cs ds s t : List ℕ} → cs ≡ ds → s ≡ t → TextPart x cs s → TextPart x ds t
alike {x} {cs} {ds} {s} {t} p q h = grind (arith, nat_tests)

byte : {x : Inside} {cs : List ℕ} (s : List ℕ) (b c : ℕ) → eqb b c ≡ true → TextPart x cs (s ++ c ∷ []) → TextPart x cs (s ++ b ∷ [])
byte {x} {cs} s b c e h = grind (arith, nat_tests)

led_grows : {cs s : List ℕ} (b : ℕ) → Chars cs s → Grown cs s b (led b)
led_grows {cs} {s} b ch =
    let P : Spelling → Type 0 = Grown cs s b in
    cond_both (plain b) _ _ P (λ e. between (Chars.more ch (Character.raw (Raw.one b e))))
    (λ _. cond_both (lead2 b) _ _ P (λ e. raw1 (b ∷ []) ch (λ c h. Raw.two b c e h))
    (λ _. cond_both (lead3 b) _ _ P (λ e. raw3 b ch e)
    (λ _. cond_both (lead4 b) _ _ P (λ e. raw4 b ch e)
    (λ _. cond_both (eqb b 92) _ _ P (λ e. byte s b 92 e (slash ch)) (λ _. tt)))))

escape_grows : {cs s : List ℕ} (b : ℕ) (o : Option ℕ) → simple b ≡ o → Chars cs s → Grown cs (s ++ 92 ∷ []) b (escaped_by o b)
escape_grows {cs} {s} b (Some c) e ch = alike refl (sym (append_assoc s (92 ∷ []) (b ∷ []))) (between (Chars.more ch (Character.escape b c e)))
escape_grows {cs} {s} b None e ch =
    cond_both (eqb b 117) _ _ (Grown cs (s ++ 92 ∷ []) b) (λ h. byte (s ++ 92 ∷ []) b 117 h (alike refl (sym (append_assoc s (92 ∷ []) (117 ∷ []))) (unit0 ch))) (λ _. tt)

pub text_grows : {x : Inside} {cs s : List ℕ} (b : ℕ) → TextPart x cs s → Grown cs s b (spelled x b)
text_grows b (between ch) = led_grows b ch
text_grows b (raw1 {cs} {s} w ch h) =
    cond_both (tail b) _ _ (Grown (cs ++ w) (s ++ w) b)
    (λ e. alike (sym (append_assoc cs w (b ∷ []))) (sym (append_assoc s w (b ∷ []))) (between (Chars.more ch (Character.raw (h b e))))) (λ _. tt)
text_grows b (raw2 {cs} {s} w ch h) =
    cond_both (tail b) _ _ (Grown (cs ++ w) (s ++ w) b)
    (λ e. alike (sym (append_assoc cs w (b ∷ []))) (sym (append_assoc s w (b ∷ []))) (raw1 (w ++ b ∷ []) ch (λ c k. subst Raw (sym (append_assoc w (b ∷ []) (c ∷ []))) (h b c e k)))) (λ _. tt)
text_grows b (raw3 {cs} {s} a ch l) =
    cond_both (second a b) _ _ (Grown (cs ++ a ∷ []) (s ++ a ∷ []) b)
    (λ e. alike (sym (append_assoc cs (a ∷ []) (b ∷ []))) (sym (append_assoc s (a ∷ []) (b ∷ []))) (raw1 (a ∷ b ∷ []) ch (λ c k. Raw.three a b c l e k))) (λ _. tt)
text_grows b (raw4 {cs} {s} a ch l) =
    cond_both (second a b) _ _ (Grown (cs ++ a ∷ []) (s ++ a ∷ []) b)
    (λ e. alike (sym (append_assoc cs (a ∷ []) (b ∷ []))) (sym (append_assoc s (a ∷ []) (b ∷ []))) (raw2 (a ∷ b ∷ []) ch (λ c d k q. Raw.four a b c d l e k q))) (λ _. tt)
text_grows b (slash ch) = escape_grows b (simple b) refl ch
text_grows b (unit0 {cs} {s} ch) =
    cond_both (hex b) _ _ (Grown cs (s ++ 92 ∷ 117 ∷ []) b) (λ e. alike refl (sym (append_assoc s (92 ∷ 117 ∷ []) (b ∷ []))) (unit1 b ch e)) (λ _. tt)
text_grows b (unit1 {cs} {s} a ch ha) =
    let P : Spelling → Type 0 = Grown cs (s ++ 92 ∷ 117 ∷ a ∷ []) b in
    cond_both (hex b) _ _ P
    (λ e. cond_both (eqb (hexed a) 13 && leb 12 (hexed b)) _ _ P (λ _. tt) (λ f. alike refl (sym (append_assoc s (92 ∷ 117 ∷ a ∷ []) (b ∷ []))) (unit2 a b ch ha e f))) (λ _. tt)
text_grows b (unit2 {cs} {s} a d ch ha hd f) =
    cond_both (hex b) _ _ (Grown cs (s ++ 92 ∷ 117 ∷ a ∷ d ∷ []) b) (λ e. alike refl (sym (append_assoc s (92 ∷ 117 ∷ a ∷ d ∷ []) (b ∷ []))) (unit3 a d b ch ha hd f e)) (λ _. tt)
text_grows b (unit3 {cs} {s} a d c ch ha hd f hc) =
    let P : Spelling → Type 0 = Grown cs (s ++ 92 ∷ 117 ∷ a ∷ d ∷ c ∷ []) b in
    cond_both (hex b) _ _ P
    (λ e. cond_both (scalar (unit (hexed a) (hexed d) (hexed c) (hexed b))) _ _ P
    (λ g. alike refl (sym (append_assoc s (92 ∷ 117 ∷ a ∷ d ∷ c ∷ []) (b ∷ []))) (between (Chars.more ch (Character.single (CodeUnit.digits a d c b ha hd hc e) (scalar-alone (unit (hexed a) (hexed d) (hexed c) (hexed b)) g)))))
    (λ g. alike refl (sym (append_assoc s (92 ∷ 117 ∷ a ∷ d ∷ c ∷ []) (b ∷ []))) (high-unit ch (CodeUnit.digits a d c b ha hd hc e) (unit-high (hexed a) (hexed d) (hexed c) (hexed b) (hex_small a ha) (hex_small d hd) (hex_small c hc) (hex_small b e) f g))))
    (λ _. tt)
text_grows b (high-unit {cs} {s} {w} ch cu hi) =
    cond_both (eqb b 92) _ _ (Grown cs (s ++ w) b) (λ e. byte (s ++ w) b 92 e (alike refl (sym (append_assoc s w (92 ∷ []))) (high_slash ch cu hi))) (λ _. tt)
text_grows b (high_slash {cs} {s} {w} ch cu hi) =
    cond_both (eqb b 117) _ _ (Grown cs (s ++ (w ++ 92 ∷ [])) b) (λ e. byte (s ++ (w ++ 92 ∷ [])) b 117 e (alike refl (simp append_assoc) (low0 ch cu hi))) (λ _. tt)
text_grows b (low0 {cs} {s} {w} ch cu hi) =
    let P : Spelling → Type 0 = Grown cs (s ++ (w ++ 92 ∷ 117 ∷ [])) b in
    cond_both (hex b) _ _ P (λ e. cond_both (eqb (hexed b) 13) _ _ P (λ f. alike refl (simp append_assoc) (low1 b ch cu hi e f)) (λ _. tt)) (λ _. tt)
text_grows b (low1 {cs} {s} {w} a ch cu hi ha f) =
    let P : Spelling → Type 0 = Grown cs (s ++ (w ++ 92 ∷ 117 ∷ a ∷ [])) b in
    cond_both (hex b) _ _ P (λ e. cond_both (leb 12 (hexed b)) _ _ P (λ g. alike refl (simp append_assoc) (low2 a b ch cu hi ha f e g)) (λ _. tt)) (λ _. tt)
text_grows b (low2 {cs} {s} {w} a d ch cu hi ha f hd g) =
    cond_both (hex b) _ _ (Grown cs (s ++ (w ++ 92 ∷ 117 ∷ a ∷ d ∷ [])) b) (λ e. alike refl (simp append_assoc) (low3 a d b ch cu hi ha f hd g e)) (λ _. tt)
text_grows b (low3 {cs} {s} {w} a d c ch cu hi ha f hd g hc) =
    cond_both (hex b) _ _ (Grown cs (s ++ (w ++ 92 ∷ 117 ∷ a ∷ d ∷ c ∷ [])) b)
    (λ e. alike refl (simp append_assoc) (between (Chars.more ch (Character.twins cu hi (CodeUnit.digits a d c b ha hd hc e) (unit-low (hexed a) (hexed d) (hexed c) (hexed b) (hex_small d hd) (hex_small c hc) (hex_small b e) f g)))))
    (λ _. tt)

-- the quote that ends a string
pub text_closes : {x : Inside} {cs s : List ℕ} (b : ℕ) → TextPart x cs s → closing x b ≡ true → Chars cs s × (eqb b 34 ≡ true)
text_closes b (between ch) e = (ch, e)
text_closes b (raw1 w ch h) e = absurd (false≢true e)
text_closes b (raw2 w ch h) e = absurd (false≢true e)
text_closes b (raw3 a ch l) e = absurd (false≢true e)
text_closes b (raw4 a ch l) e = absurd (false≢true e)
text_closes b (slash ch) e = absurd (false≢true e)
text_closes b (unit0 ch) e = absurd (false≢true e)
text_closes b (unit1 a ch ha) e = absurd (false≢true e)
text_closes b (unit2 a d ch ha hd f) e = absurd (false≢true e)
text_closes b (unit3 a d c ch ha hd f hc) e = absurd (false≢true e)
text_closes b (high-unit ch cu hi) e = absurd (false≢true e)
text_closes b (high_slash ch cu hi) e = absurd (false≢true e)
text_closes b (low0 ch cu hi) e = absurd (false≢true e)
text_closes b (low1 a ch cu hi ha f) e = absurd (false≢true e)
text_closes b (low2 a d ch cu hi ha f hd g) e = absurd (false≢true e)
text_closes b (low3 a d c ch cu hi ha f hd g hc) e = absurd (false≢true e)

-- ---- each can be completed

abbrev pub Completed : List ℕ → Type 0
Completed s = (q : List ℕ) × (cs : List ℕ) × Chars cs (s ++ q)

completed_front : (s x y : List ℕ) → Completed (s ++ (x ++ y)) → Completed (s ++ x)
completed_front s x y h = (y ++ h.0, h.1, subst (Chars h.1) (simp append_assoc) h.2)

second3 : (a : ℕ) → second a (cond (eqb a 224) 160 128) ≡ true ⊎ (lead3 a ≡ false)
second3 a = grind (arith, nat_tests)

second4 : (a : ℕ) → lead4 a ≡ true → second a (cond (eqb a 240) 144 128) ≡ true
second4 a l = grind (arith, nat_tests)

low_dc00 : CodeUnit 56320 (92 ∷ 117 ∷ 100 ∷ 99 ∷ 48 ∷ 48 ∷ [])
low_dc00 = CodeUnit.digits 100 99 48 48 refl refl refl refl

unit_completed : {cs s w : List ℕ} {u : ℕ} → Chars cs s → CodeUnit u w → (surrogate u ≡ false) ⊎ (high u ≡ true) → Completed (s ++ w)
unit_completed {cs} {s} {w} ch cu (inl e) = ([], _, subst (Chars _) (sym (append-nil (s ++ w))) (Chars.more ch (Character.single cu e)))
unit_completed {cs} {s} {w} ch cu (inr e) =
    (92 ∷ 117 ∷ 100 ∷ 99 ∷ 48 ∷ 48 ∷ [], _, subst (Chars _) (sym (append_assoc s w (92 ∷ 117 ∷ 100 ∷ 99 ∷ 48 ∷ 48 ∷ []))) (Chars.more ch (Character.twins cu e low_dc00 refl)))

-- four digits, the first two of which do not begin a low surrogate
digits_completed : {cs s : List ℕ} (a b c d : ℕ) → Chars cs s → hex a ≡ true → hex b ≡ true → hex c ≡ true → hex d ≡ true → (eqb (hexed a) 13 && leb 12 (hexed b)) ≡ false → Completed (s ++ 92 ∷ 117 ∷ a ∷ b ∷ c ∷ d ∷ [])
digits_completed {cs} {s} a b c d ch ha hb hc hd f = by_way (cases_Bool (scalar (unit (hexed a) (hexed b) (hexed c) (hexed d))))
  where
    by_way : (scalar (unit (hexed a) (hexed b) (hexed c) (hexed d)) ≡ true) ⊎ (scalar (unit (hexed a) (hexed b) (hexed c) (hexed d)) ≡ false) → Completed (s ++ 92 ∷ 117 ∷ a ∷ b ∷ c ∷ d ∷ [])
    by_way (inl e) = unit_completed ch (CodeUnit.digits a b c d ha hb hc hd) (inl (scalar-alone (unit (hexed a) (hexed b) (hexed c) (hexed d)) e))
    by_way (inr e) = unit_completed ch (CodeUnit.digits a b c d ha hb hc hd) (inr (unit-high (hexed a) (hexed b) (hexed c) (hexed d) (hex_small a ha) (hex_small b hb) (hex_small c hc) (hex_small d hd) f e))

zero-second : (x : ℕ) → (eqb x 13 && leb 12 0) ≡ false
zero-second x = grind (arith, nat_tests)

low_completed : {cs s w : List ℕ} {h : ℕ} (a b c d : ℕ) → Chars cs s → CodeUnit h w → high h ≡ true → hex a ≡ true → eqb (hexed a) 13 ≡ true → hex b ≡ true → leb 12 (hexed b) ≡ true → hex c ≡ true → hex d ≡ true
    → Completed (s ++ (w ++ 92 ∷ 117 ∷ a ∷ b ∷ c ∷ d ∷ []))
low_completed {cs} {s} {w} a b c d ch cu hi ha f hb g hc hd =
    ([], _, subst (Chars _) (sym (append-nil (s ++ (w ++ 92 ∷ 117 ∷ a ∷ b ∷ c ∷ d ∷ [])))) (Chars.more ch (Character.twins cu hi (CodeUnit.digits a b c d ha hb hc hd) (unit-low (hexed a) (hexed b) (hexed c) (hexed d) (hex_small b hb) (hex_small c hc) (hex_small d hd) f g))))

low-front : (s w x y : List ℕ) → Completed (s ++ (w ++ (x ++ y))) → Completed (s ++ (w ++ x))
low-front s w x y h = completed_front s (w ++ x) y (subst (λ l. Completed (s ++ l)) (sym (append_assoc w x y)) h)

three_completed : {cs s : List ℕ} (a : ℕ) → Chars cs s → lead3 a ≡ true → (second a (cond (eqb a 224) 160 128) ≡ true) ⊎ (lead3 a ≡ false) → Completed (s ++ a ∷ [])
three_completed {cs} {s} a ch l (inl e) =
    let b : ℕ = cond (eqb a 224) 160 128 in
    (b ∷ 128 ∷ [], _, subst (Chars _) (sym (append_assoc s (a ∷ []) (b ∷ 128 ∷ []))) (Chars.more ch (Character.raw (Raw.three a b 128 l e refl))))
three_completed {cs} {s} a ch l (inr e) = absurd (false≢true (sym e ∙ l))

pub text_completed : {x : Inside} {cs s : List ℕ} → TextPart x cs s → Completed s
text_completed (between ch) = ([], _, subst (Chars _) (sym (append-nil _)) ch)
text_completed (raw1 {cs} {s} w ch h) = (128 ∷ [], _, subst (Chars _) (sym (append_assoc s w (128 ∷ []))) (Chars.more ch (Character.raw (h 128 refl))))
text_completed (raw2 {cs} {s} w ch h) = (128 ∷ 128 ∷ [], _, subst (Chars _) (sym (append_assoc s w (128 ∷ 128 ∷ []))) (Chars.more ch (Character.raw (h 128 128 refl refl))))
text_completed (raw3 a ch l) = three_completed a ch l (second3 a)
text_completed (raw4 {cs} {s} a ch l) =
    let b : ℕ = cond (eqb a 240) 144 128 in
    (b ∷ 128 ∷ 128 ∷ [], _, subst (Chars _) (sym (append_assoc s (a ∷ []) (b ∷ 128 ∷ 128 ∷ []))) (Chars.more ch (Character.raw (Raw.four a b 128 128 l (second4 a l) refl refl))))
text_completed (slash {cs} {s} ch) = (110 ∷ [], _, subst (Chars _) (sym (append_assoc s (92 ∷ []) (110 ∷ []))) (Chars.more ch (Character.escape 110 10 refl)))
text_completed (unit0 {cs} {s} ch) = completed_front s (92 ∷ 117 ∷ []) (48 ∷ 48 ∷ 48 ∷ 48 ∷ []) (digits_completed 48 48 48 48 ch refl refl refl refl refl)
text_completed (unit1 {cs} {s} a ch ha) = completed_front s (92 ∷ 117 ∷ a ∷ []) (48 ∷ 48 ∷ 48 ∷ []) (digits_completed a 48 48 48 ch ha refl refl refl (zero-second (hexed a)))
text_completed (unit2 {cs} {s} a b ch ha hb f) = completed_front s (92 ∷ 117 ∷ a ∷ b ∷ []) (48 ∷ 48 ∷ []) (digits_completed a b 48 48 ch ha hb refl refl f)
text_completed (unit3 {cs} {s} a b c ch ha hb f hc) = completed_front s (92 ∷ 117 ∷ a ∷ b ∷ c ∷ []) (48 ∷ []) (digits_completed a b c 48 ch ha hb hc refl f)
text_completed (high-unit {cs} {s} {w} ch cu hi) = unit_completed ch cu (inr hi)
text_completed (high_slash {cs} {s} {w} ch cu hi) = low-front s w (92 ∷ []) (117 ∷ 100 ∷ 99 ∷ 48 ∷ 48 ∷ []) (low_completed 100 99 48 48 ch cu hi refl refl refl refl refl refl)
text_completed (low0 {cs} {s} {w} ch cu hi) = low-front s w (92 ∷ 117 ∷ []) (100 ∷ 99 ∷ 48 ∷ 48 ∷ []) (low_completed 100 99 48 48 ch cu hi refl refl refl refl refl refl)
text_completed (low1 {cs} {s} {w} a ch cu hi ha f) = low-front s w (92 ∷ 117 ∷ a ∷ []) (99 ∷ 48 ∷ 48 ∷ []) (low_completed a 99 48 48 ch cu hi ha f refl refl refl refl)
text_completed (low2 {cs} {s} {w} a b ch cu hi ha f hb g) = low-front s w (92 ∷ 117 ∷ a ∷ b ∷ []) (48 ∷ 48 ∷ []) (low_completed a b 48 48 ch cu hi ha f hb g refl refl)
text_completed (low3 {cs} {s} {w} a b c ch cu hi ha f hb g hc) = low-front s w (92 ∷ 117 ∷ a ∷ b ∷ c ∷ []) (48 ∷ []) (low_completed a b c 48 ch cu hi ha f hb g hc refl)
