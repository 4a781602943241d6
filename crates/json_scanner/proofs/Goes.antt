-- Runs from a state, a byte at a time.
use Rattle.std.proofs.Common.{◌≡◌, ℕ, ◌+◌, ◌<◌, true, false, ◌&&◌, eqb, leb, List, [], ◌∷◌, ◌++◌, length, Some, None, Ok, Err, Option, Result, sym, refl, ◌∙◌, subst, append_assoc, arith}
use lib.Utf8.{scalar}
use Rattle.std.proofs.lemmas.Bool.{cond-true, cond-false}
use Rattle.std.proofs.lemmas.Bool.Decides.{nat_tests}
use Rattle.json_scanner.specs.declared.modes.Role.{Role}
use Rattle.json_scanner.specs.declared.modes.Tail.TheVariants as tails
use Rattle.json_scanner.specs.declared.modes.Hex.TheVariants as hexes
use Rattle.json_scanner.specs.declared.modes.Inside.{Inside}
use Rattle.json_scanner.specs.declared.modes.Inside.TheVariants as inside
use Rattle.json_scanner.specs.declared.modes.Piece.{Piece}
use Rattle.json_scanner.specs.declared.modes.Piece.TheVariants as piece
use Rattle.json_scanner.specs.declared.modes.Mode.{Mode}
use Rattle.json_scanner.specs.declared.modes.Mode.TheVariants as mode
use Rattle.json_scanner.specs.declared.modes.Fault.{Fault}
use Rattle.json_scanner.specs.Grammar.{Tree, white, plain, lead2, lead3, lead4, tail, second, hex, hexed, unit, pair, high, low, surrogate, Blank, Raw, CodeUnit, Character, Chars}
use Rattle.json_scanner.specs.Bytes.{Moved, moved, act_of, spelled, spells, led, united, closing, figure, settled, still, then}
use Rattle.json_scanner.specs.Machine.{State, Frame, kinds, surroundings, performed, carried, stepped, step, run}
use Rattle.json_scanner.proofs.Strings.{added, hex_small, unit_small}
use Rattle.json_scanner.proofs.Shape.{made_of}

-- no number goes on in s
abbrev pub Stops : List ℕ → Type 0
Stops [] = Unit {0}
Stops (b ∷ s) = figure b ≡ false

white-figure : (b : ℕ) → white b ≡ true → figure b ≡ false
white-figure b e = grind (arith, nat_tests)

pub blank_stops : {w : List ℕ} (rest : List ℕ) → Blank w → Stops rest → Stops (w ++ rest)
blank_stops rest Blank.none sp = sp
blank_stops rest (Blank.more {w = w} b bl e) sp = subst Stops (sym (append_assoc w (b ∷ []) rest)) (blank_stops (b ∷ rest) bl (white-figure b e))

-- no number ends here
pub unsettled : (i b : ℕ) (m : Mode) (n : ℕ) (cs : List ℕ) (f : Frame) (bs : List Frame) → settled m n ≡ Ok (still m n) → step i (made_of m n cs f bs) b ≡ stepped i (made_of m n cs f bs) b
unsettled i b m n cs f bs h = grind (arith, nat_tests)

pub step-moved : (i b : ℕ) (m : Mode) (n : ℕ) (cs : List ℕ) (f : Frame) (bs : List Frame) (mv : Moved) → settled m n ≡ Ok (still m n) → moved m (surroundings i (kinds f bs) n) b ≡ mv → step i (made_of m n cs f bs) b ≡ carried mv (made_of m n cs f bs)
step-moved i b m n cs f bs mv h e = grind (arith, nat_tests)

performed_piece : (r : Role) (x y : Inside) (n : ℕ) (cs : List ℕ) (f : Frame) (bs : List Frame) (p : Option Piece) → performed (act_of p) (mode.Text r y) (made_of (mode.Text r x) n cs f bs) ≡ made_of (mode.Text r y) n (added cs p) f bs
performed_piece r x y n cs f bs None = refl
performed_piece r x y n cs f bs (Some p) = refl

text_step : (r : Role) (x y : Inside) (p : Option Piece) (i b n : ℕ) (cs : List ℕ) (f : Frame) (bs : List Frame) → closing x b ≡ false → spelled x b ≡ spells y p
    → step i (made_of (mode.Text r x) n cs f bs) b ≡ Ok (made_of (mode.Text r y) n (added cs p) f bs)
text_step r x y p i b n cs f bs c e = grind (arith, nat_tests)

-- ---- code units, by their digits

alone-scalar : (u : ℕ) → u < 65536 → surrogate u ≡ false → scalar u ≡ true
alone-scalar u lt e = grind (arith, nat_tests)

alone_12 : (x y z w : ℕ) → z < 16 → w < 16 → y < 16 → surrogate (unit x y z w) ≡ false → (eqb x 13 && leb 12 y) ≡ false
alone_12 x y z w hz hw hy e = grind (arith, nat_tests)

high-scalar : (u : ℕ) → high u ≡ true → scalar u ≡ false
high-scalar u e = grind (arith, nat_tests)

high_12 : (x y z w : ℕ) → z < 16 → w < 16 → y < 16 → high (unit x y z w) ≡ true → (eqb x 13 && leb 12 y) ≡ false
high_12 x y z w hz hw hy e = grind (arith, nat_tests)

low_13 : (x y z w : ℕ) → z < 16 → w < 16 → y < 16 → low (unit x y z w) ≡ true → eqb x 13 ≡ true
low_13 x y z w hz hw hy e = grind (arith, nat_tests)

low_12 : (x y z w : ℕ) → z < 16 → w < 16 → y < 16 → low (unit x y z w) ≡ true → leb 12 y ≡ true
low_12 x y z w hz hw hy e = grind (arith, nat_tests)

plain_quote : (b : ℕ) → plain b ≡ true → eqb b 34 ≡ false
plain_quote b e = grind (arith, nat_tests)

lead2_quote : (b : ℕ) → lead2 b ≡ true → eqb b 34 ≡ false
lead2_quote b e = grind (arith, nat_tests)

lead3_quote : (b : ℕ) → lead3 b ≡ true → eqb b 34 ≡ false
lead3_quote b e = grind (arith, nat_tests)

lead4_quote : (b : ℕ) → lead4 b ≡ true → eqb b 34 ≡ false
lead4_quote b e = grind (arith, nat_tests)

led2 : (b : ℕ) → lead2 b ≡ true → led b ≡ spells (inside.Raw tails.One) (Some (piece.Byte b))
led2 b e = grind (arith, nat_tests)

led3 : (b : ℕ) → lead3 b ≡ true → led b ≡ spells (inside.Raw (tails.SecondOfThree b)) (Some (piece.Byte b))
led3 b e = grind (arith, nat_tests)

led4 : (b : ℕ) → lead4 b ≡ true → led b ≡ spells (inside.Raw (tails.SecondOfFour b)) (Some (piece.Byte b))
led4 b e = grind (arith, nat_tests)

-- ---- what holds of the outcome of the rest holds of the outcome of the whole; N is the length of the text

module _ (N : ℕ) (P : Result Tree Fault → Type 0) where
  abbrev pub Goes : State → ℕ → List ℕ → Type 0
  Goes st i l = i + length l ≡ N → P (run st i l)

  pub go : (st next : State) (i b : ℕ) (rest : List ℕ) → step i st b ≡ Ok next → Goes next (i + 1) rest → Goes st i (b ∷ rest)
  go st next i b rest e g n = grind (arith, nat_tests)

  pub stop : (st : State) (f : Fault) (i b : ℕ) (rest : List ℕ) → step i st b ≡ Err f → P (Err f) → Goes st i (b ∷ rest)
  stop st f i b rest e h n = subst (λ r. P (then r (λ x. run x (i + 1) rest))) (sym e) h

  pub blanks : {w : List ℕ} (st : State) (rest : List ℕ) → ((i b : ℕ) → white b ≡ true → step i st b ≡ Ok st) → Blank w → ((j : ℕ) → Goes st j rest) → (i : ℕ) → Goes st i (w ++ rest)
  blanks st rest stay Blank.none k i = k i
  blanks st rest stay (Blank.more {w = w} b bl e) k i =
      subst (Goes st i) (sym (append_assoc w (b ∷ []) rest)) (blanks st (b ∷ rest) stay bl (λ j. go st st j b rest (stay j b e) (k (j + 1))) i)

  module _ (r : Role) (n : ℕ) (f : Frame) (bs : List Frame) where
    abbrev pub texting : Inside → List ℕ → State
    texting x cs = made_of (mode.Text r x) n cs f bs

    text_go : (x y : Inside) (p : Option Piece) (cs : List ℕ) (b : ℕ) (rest : List ℕ) → closing x b ≡ false → spelled x b ≡ spells y p → ((j : ℕ) → Goes (texting y (added cs p)) j rest) → (j : ℕ) → Goes (texting x cs) j (b ∷ rest)
    text_go x y p cs b rest c e k j = go (texting x cs) (texting y (added cs p)) j b rest (text_step r x y p j b n cs f bs c e) (k (j + 1))

    raw_run : {w : List ℕ} (cs rest : List ℕ) → Raw w → ((j : ℕ) → Goes (texting inside.Plain (cs ++ w)) j rest) → (j : ℕ) → Goes (texting inside.Plain cs) j (w ++ rest)
    raw_run cs rest (Raw.one b e) k = grind (arith, nat_tests)
    raw_run cs rest (Raw.two a b e h) k =
        text_go inside.Plain (inside.Raw tails.One) (Some (piece.Byte a)) cs a (b ∷ rest) (lead2_quote a e) (led2 a e)
        (text_go (inside.Raw tails.One) inside.Plain (Some (piece.Byte b)) (cs ++ a ∷ []) b rest refl (cond-true (tail b) _ _ h)
        (λ j. subst (λ l. Goes (texting inside.Plain l) j rest) (sym (append_assoc cs (a ∷ []) (b ∷ []))) (k j)))
    raw_run cs rest (Raw.three a b c e s h) k =
        text_go inside.Plain (inside.Raw (tails.SecondOfThree a)) (Some (piece.Byte a)) cs a (b ∷ c ∷ rest) (lead3_quote a e) (led3 a e)
        (text_go (inside.Raw (tails.SecondOfThree a)) (inside.Raw tails.One) (Some (piece.Byte b)) (cs ++ a ∷ []) b (c ∷ rest) refl (cond-true (second a b) _ _ s)
        (text_go (inside.Raw tails.One) inside.Plain (Some (piece.Byte c)) ((cs ++ a ∷ []) ++ b ∷ []) c rest refl (cond-true (tail c) _ _ h)
        (λ j. subst (λ l. Goes (texting inside.Plain l) j rest) (joins3 cs (a ∷ []) (b ∷ []) (c ∷ [])) (k j))))
      where
        joins3 : (x y z w : List ℕ) → x ++ (y ++ (z ++ w)) ≡ ((x ++ y) ++ z) ++ w
        joins3 x y z w = simp append_assoc
    raw_run cs rest (Raw.four a b c d e s h g) k =
        text_go inside.Plain (inside.Raw (tails.SecondOfFour a)) (Some (piece.Byte a)) cs a (b ∷ c ∷ d ∷ rest) (lead4_quote a e) (led4 a e)
        (text_go (inside.Raw (tails.SecondOfFour a)) (inside.Raw tails.Two) (Some (piece.Byte b)) (cs ++ a ∷ []) b (c ∷ d ∷ rest) refl (cond-true (second a b) _ _ s)
        (text_go (inside.Raw tails.Two) (inside.Raw tails.One) (Some (piece.Byte c)) ((cs ++ a ∷ []) ++ b ∷ []) c (d ∷ rest) refl (cond-true (tail c) _ _ h)
        (text_go (inside.Raw tails.One) inside.Plain (Some (piece.Byte d)) (((cs ++ a ∷ []) ++ b ∷ []) ++ c ∷ []) d rest refl (cond-true (tail d) _ _ g)
        (λ j. subst (λ l. Goes (texting inside.Plain l) j rest) (joins4 cs (a ∷ []) (b ∷ []) (c ∷ []) (d ∷ [])) (k j)))))
      where
        joins4 : (x y z w v : List ℕ) → x ++ (y ++ (z ++ (w ++ v))) ≡ (((x ++ y) ++ z) ++ w) ++ v
        joins4 x y z w v = simp append_assoc

    -- a code unit that is a character or a high surrogate
    unit-run : (cs : List ℕ) (a b c d : ℕ) (y : Inside) (p : Option Piece) (rest : List ℕ) → hex a ≡ true → hex b ≡ true → hex c ≡ true → hex d ≡ true → (eqb (hexed a) 13 && leb 12 (hexed b)) ≡ false
        → united (hexes.Three (hexed a) (hexed b) (hexed c)) (hexed d) ≡ spells y p → ((j : ℕ) → Goes (texting y (added cs p)) j rest) → (j : ℕ) → Goes (texting inside.Plain cs) j (92 ∷ 117 ∷ a ∷ b ∷ c ∷ d ∷ rest)
    unit-run cs a b c d y p rest ha hb hc hd f12 e k =
        text_go inside.Plain inside.Escape None cs 92 (117 ∷ a ∷ b ∷ c ∷ d ∷ rest) refl refl
        (text_go inside.Escape (inside.Unit hexes.Zero) None cs 117 (a ∷ b ∷ c ∷ d ∷ rest) refl refl
        (text_go (inside.Unit hexes.Zero) (inside.Unit (hexes.One (hexed a))) None cs a (b ∷ c ∷ d ∷ rest) refl (cond-true (hex a) _ _ ha)
        (text_go (inside.Unit (hexes.One (hexed a))) (inside.Unit (hexes.Two (hexed a) (hexed b))) None cs b (c ∷ d ∷ rest) refl (cond-true (hex b) _ _ hb ∙ cond-false (eqb (hexed a) 13 && leb 12 (hexed b)) _ _ f12)
        (text_go (inside.Unit (hexes.Two (hexed a) (hexed b))) (inside.Unit (hexes.Three (hexed a) (hexed b) (hexed c))) None cs c (d ∷ rest) refl (cond-true (hex c) _ _ hc)
        (text_go (inside.Unit (hexes.Three (hexed a) (hexed b) (hexed c))) y p cs d rest refl (cond-true (hex d) _ _ hd ∙ e) k)))))

    -- the low surrogate behind a high one
    low_run : (cs : List ℕ) (h a b c d : ℕ) (rest : List ℕ) → hex a ≡ true → hex b ≡ true → hex c ≡ true → hex d ≡ true → eqb (hexed a) 13 ≡ true → leb 12 (hexed b) ≡ true
        → ((j : ℕ) → Goes (texting inside.Plain (added cs (Some (piece.Char (pair h (unit (hexed a) (hexed b) (hexed c) (hexed d))))))) j rest) → (j : ℕ) → Goes (texting (inside.High h) cs) j (92 ∷ 117 ∷ a ∷ b ∷ c ∷ d ∷ rest)
    low_run cs h a b c d rest ha hb hc hd e13 e12 k =
        text_go (inside.High h) (inside.HighEscape h) None cs 92 (117 ∷ a ∷ b ∷ c ∷ d ∷ rest) refl refl
        (text_go (inside.HighEscape h) (inside.Low h hexes.Zero) None cs 117 (a ∷ b ∷ c ∷ d ∷ rest) refl refl
        (text_go (inside.Low h hexes.Zero) (inside.Low h (hexes.One (hexed a))) None cs a (b ∷ c ∷ d ∷ rest) refl (cond-true (hex a) _ _ ha ∙ cond-true (eqb (hexed a) 13) _ _ e13)
        (text_go (inside.Low h (hexes.One (hexed a))) (inside.Low h (hexes.Two (hexed a) (hexed b))) None cs b (c ∷ d ∷ rest) refl (cond-true (hex b) _ _ hb ∙ cond-true (leb 12 (hexed b)) _ _ e12)
        (text_go (inside.Low h (hexes.Two (hexed a) (hexed b))) (inside.Low h (hexes.Three (hexed a) (hexed b) (hexed c))) None cs c (d ∷ rest) refl (cond-true (hex c) _ _ hc)
        (text_go (inside.Low h (hexes.Three (hexed a) (hexed b) (hexed c))) inside.Plain (Some (piece.Char (pair h (unit (hexed a) (hexed b) (hexed c) (hexed d))))) cs d rest refl (cond-true (hex d) _ _ hd) k)))))

    character_run : {c w : List ℕ} (cs rest : List ℕ) → Character c w → ((j : ℕ) → Goes (texting inside.Plain (cs ++ c)) j rest) → (j : ℕ) → Goes (texting inside.Plain cs) j (w ++ rest)
    character_run cs rest (Character.raw raw) k = raw_run cs rest raw k
    character_run cs rest (Character.escape b c e) k = grind (arith, nat_tests)
    character_run cs rest (Character.single (CodeUnit.digits a b c d ha hb hc hd) e) k =
        unit-run cs a b c d inside.Plain (Some (piece.Char (unit (hexed a) (hexed b) (hexed c) (hexed d)))) rest ha hb hc hd (alone_12 (hexed a) (hexed b) (hexed c) (hexed d) (hex_small c hc) (hex_small d hd) (hex_small b hb) e)
        (cond-true (scalar (unit (hexed a) (hexed b) (hexed c) (hexed d))) _ _ (alone-scalar (unit (hexed a) (hexed b) (hexed c) (hexed d)) (unit_small a b c d ha hb hc hd) e)) k
    character_run cs rest (Character.twins (CodeUnit.digits a b c d ha hb hc hd) e (CodeUnit.digits x y z w hx hy hz hw) l) k =
        unit-run cs a b c d (inside.High (unit (hexed a) (hexed b) (hexed c) (hexed d))) None (92 ∷ 117 ∷ x ∷ y ∷ z ∷ w ∷ rest) ha hb hc hd (high_12 (hexed a) (hexed b) (hexed c) (hexed d) (hex_small c hc) (hex_small d hd) (hex_small b hb) e)
        (cond-false (scalar (unit (hexed a) (hexed b) (hexed c) (hexed d))) _ _ (high-scalar (unit (hexed a) (hexed b) (hexed c) (hexed d)) e))
        (low_run cs (unit (hexed a) (hexed b) (hexed c) (hexed d)) x y z w rest hx hy hz hw (low_13 (hexed x) (hexed y) (hexed z) (hexed w) (hex_small z hz) (hex_small w hw) (hex_small y hy) l) (low_12 (hexed x) (hexed y) (hexed z) (hexed w) (hex_small z hz) (hex_small w hw) (hex_small y hy) l) k)

    pub chars_run : {cs s : List ℕ} (rest : List ℕ) → Chars cs s → ((j : ℕ) → Goes (texting inside.Plain cs) j rest) → (i : ℕ) → Goes (texting inside.Plain []) i (s ++ rest)
    chars_run rest Chars.none k i = k i
    chars_run rest (Chars.more {cs = cs} {s = s} {w = w} ch c) k i =
        subst (Goes (texting inside.Plain []) i) (sym (append_assoc s w rest)) (chars_run (w ++ rest) ch (character_run cs rest c k) i)
