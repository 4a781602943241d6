-- Each move of the scanner fits the frames.
use Rattle.std.proofs.Common.{◌≡◌, ℕ, ◌+◌, ◌≤◌, ◌&&◌, eqb, leb, List, [], ◌∷◌, Some, None, Ok, Err, Option, Result, refl, arith}
use Rattle.std.specs.Char.{is_ascii_digit}
use Rattle.std.proofs.lemmas.Bool.{cond_both}
use Rattle.json_scanner.specs.declared.modes.Container.{Container}
use Rattle.json_scanner.specs.declared.modes.Container.TheVariants as container
use Rattle.json_scanner.specs.declared.modes.Role.{Role}
use Rattle.json_scanner.specs.declared.modes.Role.TheVariants as role
use Rattle.json_scanner.specs.declared.modes.Word.{Word}
use Rattle.json_scanner.specs.declared.modes.Word.TheVariants as word
use Rattle.json_scanner.specs.declared.modes.Figures.{Figures}
use Rattle.json_scanner.specs.declared.modes.NumberError.{NumberError}
use Rattle.json_scanner.specs.declared.modes.Hex.{Hex}
use Rattle.json_scanner.specs.declared.modes.Hex.TheVariants as hexes
use Rattle.json_scanner.specs.declared.modes.Piece.{Piece}
use Rattle.json_scanner.specs.declared.modes.Piece.TheVariants as piece
use Rattle.json_scanner.specs.declared.modes.Tail.{Tail}
use Rattle.json_scanner.specs.declared.modes.Tail.TheVariants as tails
use Rattle.json_scanner.specs.declared.modes.Inside.{Inside}
use Rattle.json_scanner.specs.declared.modes.Inside.TheVariants as inside
use Rattle.json_scanner.specs.declared.modes.Mode.{Mode}
use Rattle.json_scanner.specs.declared.modes.Mode.TheVariants as mode
use Rattle.json_scanner.specs.declared.modes.Act.{Act}
use Rattle.json_scanner.specs.declared.modes.Act.TheVariants as act
use Rattle.json_scanner.specs.declared.modes.Around.{Around as Surroundings}
use Rattle.json_scanner.specs.Grammar.{white, hex, hexed, unit, tail, second, plain, lead2, lead3, lead4, simple}
use Rattle.json_scanner.specs.Bytes.{Moved, Spelling, moved, begun, opening, beginning, keyed, followed, judged, figured, spelled, led, tailed, escaped_by, united, paired, noted, quoted, closing, spelling, letter}
use Rattle.json_scanner.specs.Machine.{Frame, bare, sole, items, fields, field, kinds, surroundings}
use Rattle.std.proofs.Math.Utf8.{scalar}
use Rattle.json_reader.proofs.Frames.{Ready, Listing, Keyed, Named, Done, Closing, Fit, Quoting, begun_in, credit}

-- how many bytes a piece adds at most
abbrev pub piece_size : Piece → ℕ
piece_size (piece.Byte b) = 1
piece_size (piece.Char c) = 4

-- behind the bracket
abbrev pub first_mode : Container → Mode
first_mode container.List = mode.First
first_mode container.Object = mode.FirstKey

module _ (m : Mode) (f : Frame) (gs : List Frame) where
  -- what is known where an act leads to a mode
  abbrev pub Goes : Act → Mode → Type 0
  Goes act.Stay n = Fit n f gs × (begun_in n ≤ begun_in m) × (credit n ≤ credit m + 1)
  Goes act.Begin n = Fit n f gs × (begun_in n ≤ begun_in m + 1) × (credit n ≤ credit m + 1)
  Goes (act.Open c) n = Ready f gs × (n ≡ first_mode c)
  Goes act.Close n = Closing f gs × (n ≡ mode.After)
  Goes (act.Add p) n = Fit n f gs × (begun_in n ≤ begun_in m) × (piece_size p + credit n ≤ credit m + 1)
  Goes act.Key n = Keyed f gs × (n ≡ mode.Colon)
  Goes act.Text n = Ready f gs × (n ≡ mode.After) × (1 ≤ begun_in m)
  Goes act.Null n = Ready f gs × (n ≡ mode.After) × (1 ≤ begun_in m)
  Goes (act.Bool b) n = Ready f gs × (n ≡ mode.After) × (1 ≤ begun_in m)

  abbrev pub Good : Moved → Type 0
  Good (Ok x) = Goes x.act x.mode
  Good (Err e) = Unit {0}

  opening_good : (a : Surroundings) (n : Mode) (c : Container) → Goes (act.Open c) n → Good (opening a n c)
  opening_good a n c h = cond_both (leb 200 a.depth) _ _ Good (λ _. tt) (λ _. cond_both (leb 4096 a.values) _ _ Good (λ _. tt) (λ _. h))

  beginning_good : (a : Surroundings) (n : Mode) → Goes act.Begin n → Good (beginning a n)
  beginning_good a n h = cond_both (leb 4096 a.values) _ _ Good (λ _. tt) (λ _. h)

  begun_good : (stay : Mode) (a : Surroundings) (b : ℕ) → Goes act.Stay stay → Ready f gs → Good (begun stay a b)
  begun_good stay a b s h =
      cond_both (white b) _ _ Good (λ _. s)
      (λ _. cond_both (eqb b 91) _ _ Good (λ _. opening_good a mode.First container.List (h, refl))
      (λ _. cond_both (eqb b 123) _ _ Good (λ _. opening_good a mode.FirstKey container.Object (h, refl))
      (λ _. cond_both (eqb b 45) _ _ Good (λ _. (h, omega arith, omega arith))
      (λ _. cond_both (is_ascii_digit b) _ _ Good (λ _. (h, omega arith, omega arith))
      (λ _. cond_both (eqb b 34) _ _ Good (λ _. beginning_good a (mode.Text role.Value inside.Plain) (h, omega arith, omega arith))
      (λ _. cond_both (eqb b 110) _ _ Good (λ _. beginning_good a (mode.Word word.N) (h, omega arith, omega arith))
      (λ _. cond_both (eqb b 116) _ _ Good (λ _. beginning_good a (mode.Word word.T) (h, omega arith, omega arith))
      (λ _. cond_both (eqb b 102) _ _ Good (λ _. beginning_good a (mode.Word word.F) (h, omega arith, omega arith)) (λ _. tt)))))))))

  keyed_good : (stay : Mode) (i b : ℕ) → Goes act.Stay stay → Keyed f gs → Good (keyed stay i b)
  keyed_good stay i b s h = cond_both (white b) _ _ Good (λ _. s) (λ _. cond_both (eqb b 34) _ _ Good (λ _. (h, omega arith, omega arith)) (λ _. tt))

word_good : (f : Frame) (gs : List Frame) (w : Word) → Ready f gs → Good (mode.Word w) f gs (Ok (spelling w))
word_good f gs word.N h = (h, omega arith, omega arith)
word_good f gs word.Nu h = (h, omega arith, omega arith)
word_good f gs word.Nul h = (h, refl, omega arith)
word_good f gs word.T h = (h, omega arith, omega arith)
word_good f gs word.Tr h = (h, omega arith, omega arith)
word_good f gs word.Tru h = (h, refl, omega arith)
word_good f gs word.F h = (h, omega arith, omega arith)
word_good f gs word.Fa h = (h, omega arith, omega arith)
word_good f gs word.Fal h = (h, omega arith, omega arith)
word_good f gs word.Fals h = (h, refl, omega arith)

listing_ready : (f : Frame) (gs : List Frame) → Listing f gs → Ready f gs
listing_ready bare gs h = absurd h
listing_ready (sole v) gs h = absurd h
listing_ready (items ts) gs h = h
listing_ready (fields ms) gs h = absurd h
listing_ready (field ms k) gs h = absurd h

listing_closing : (f : Frame) (gs : List Frame) → Listing f gs → Closing f gs
listing_closing bare gs h = absurd h
listing_closing (sole v) gs h = absurd h
listing_closing (items ts) gs h = h
listing_closing (fields ms) gs h = absurd h
listing_closing (field ms k) gs h = absurd h

keyed-closing : (f : Frame) (gs : List Frame) → Keyed f gs → Closing f gs
keyed-closing bare gs h = absurd h
keyed-closing (sole v) gs h = absurd h
keyed-closing (items ts) gs h = absurd h
keyed-closing (fields ms) gs h = h
keyed-closing (field ms k) gs h = absurd h

named_ready : (f : Frame) (gs : List Frame) → Named f gs → Ready f gs
named_ready bare gs h = absurd h
named_ready (sole v) gs h = absurd h
named_ready (items ts) gs h = absurd h
named_ready (fields ms) gs h = absurd h
named_ready (field ms k) gs h = h

-- behind a value
followed_good : (f : Frame) (gs : List Frame) (values i b : ℕ) → Done f gs → Good mode.After f gs (followed (surroundings i (kinds f gs) values).inner i b)
followed_good bare gs values i b h = absurd h
followed_good (sole v) [] values i b h = tt
followed_good (sole v) (g ∷ gs) values i b h = absurd h
followed_good (items ts) [] values i b h = absurd h
followed_good (items ts) (g ∷ gs) values i b h = cond_both (eqb b 44) _ _ (Good mode.After (items ts) (g ∷ gs)) (λ _. (tt, omega arith, omega arith)) (λ _. cond_both (eqb b 93) _ _ (Good mode.After (items ts) (g ∷ gs)) (λ _. (tt, refl)) (λ _. tt))
followed_good (fields ms) [] values i b h = absurd h
followed_good (fields ms) (g ∷ gs) values i b h = cond_both (eqb b 44) _ _ (Good mode.After (fields ms) (g ∷ gs)) (λ _. (tt, omega arith, omega arith)) (λ _. cond_both (eqb b 125) _ _ (Good mode.After (fields ms) (g ∷ gs)) (λ _. (tt, refl)) (λ _. tt))
followed_good (field ms k) gs values i b h = absurd h

-- ---- inside a string

module _ (r : Role) (f : Frame) (gs : List Frame) (q : Quoting r f gs) (i : ℕ) where
  abbrev Well : Inside → Spelling → Type 0
  Well x s = Good (mode.Text r x) f gs (noted r s i)

  led_good : (b : ℕ) → Well inside.Plain (led b)
  led_good b =
      cond_both (plain b) _ _ (Well inside.Plain) (λ _. (q, omega arith, omega arith))
      (λ _. cond_both (lead2 b) _ _ (Well inside.Plain) (λ _. (q, omega arith, omega arith))
      (λ _. cond_both (lead3 b) _ _ (Well inside.Plain) (λ _. (q, omega arith, omega arith))
      (λ _. cond_both (lead4 b) _ _ (Well inside.Plain) (λ _. (q, omega arith, omega arith))
      (λ _. cond_both (eqb b 92) _ _ (Well inside.Plain) (λ _. (q, omega arith, omega arith)) (λ _. tt)))))

  tailed_good : (t : Tail) (b : ℕ) → Well (inside.Raw t) (tailed t b)
  tailed_good tails.One b = cond_both (tail b) _ _ (Well (inside.Raw tails.One)) (λ _. (q, omega arith, omega arith)) (λ _. tt)
  tailed_good tails.Two b = cond_both (tail b) _ _ (Well (inside.Raw tails.Two)) (λ _. (q, omega arith, omega arith)) (λ _. tt)
  tailed_good (tails.SecondOfThree a) b = cond_both (second a b) _ _ (Well (inside.Raw (tails.SecondOfThree a))) (λ _. (q, omega arith, omega arith)) (λ _. tt)
  tailed_good (tails.SecondOfFour a) b = cond_both (second a b) _ _ (Well (inside.Raw (tails.SecondOfFour a))) (λ _. (q, omega arith, omega arith)) (λ _. tt)

  escaped_good : (o : Option ℕ) (b : ℕ) → Well inside.Escape (escaped_by o b)
  escaped_good (Some c) b = (q, omega arith, omega arith)
  escaped_good None b = cond_both (eqb b 117) _ _ (Well inside.Escape) (λ _. (q, omega arith, omega arith)) (λ _. tt)

  united_good : (h : Hex) (d : ℕ) → Well (inside.Unit h) (united h d)
  united_good hexes.Zero d = (q, omega arith, omega arith)
  united_good (hexes.One a) d = cond_both (eqb a 13 && leb 12 d) _ _ (Well (inside.Unit (hexes.One a))) (λ _. tt) (λ _. (q, omega arith, omega arith))
  united_good (hexes.Two a b) d = (q, omega arith, omega arith)
  united_good (hexes.Three a b c) d =
      cond_both (scalar (unit a b c d)) _ _ (Well (inside.Unit (hexes.Three a b c))) (λ _. (q, omega arith, omega arith)) (λ _. (q, omega arith, omega arith))

  paired_good : (u : ℕ) (h : Hex) (d : ℕ) → Well (inside.Low u h) (paired u h d)
  paired_good u hexes.Zero d = cond_both (eqb d 13) _ _ (Well (inside.Low u hexes.Zero)) (λ _. (q, omega arith, omega arith)) (λ _. tt)
  paired_good u (hexes.One a) d = cond_both (leb 12 d) _ _ (Well (inside.Low u (hexes.One a))) (λ _. (q, omega arith, omega arith)) (λ _. tt)
  paired_good u (hexes.Two a b) d = (q, omega arith, omega arith)
  paired_good u (hexes.Three a b c) d = (q, omega arith, omega arith)

  spelled_good : (x : Inside) (b : ℕ) → Well x (spelled x b)
  spelled_good inside.Plain b = led_good b
  spelled_good (inside.Raw t) b = tailed_good t b
  spelled_good inside.Escape b = escaped_good (simple b) b
  spelled_good (inside.Unit x) b = cond_both (hex b) _ _ (Well (inside.Unit x)) (λ _. united_good x (hexed b)) (λ _. tt)
  spelled_good (inside.High u) b = cond_both (eqb b 92) _ _ (Well (inside.High u)) (λ _. (q, omega arith, omega arith)) (λ _. tt)
  spelled_good (inside.HighEscape u) b = cond_both (eqb b 117) _ _ (Well (inside.HighEscape u)) (λ _. (q, omega arith, omega arith)) (λ _. tt)
  spelled_good (inside.Low u x) b = cond_both (hex b) _ _ (Well (inside.Low u x)) (λ _. paired_good u x (hexed b)) (λ _. tt)

quoted_good : (r : Role) (x : Inside) (f : Frame) (gs : List Frame) → Quoting r f gs → Good (mode.Text r x) f gs (Ok (quoted r))
quoted_good role.Key x f gs q = (q, refl)
quoted_good role.Value x f gs q = (q, refl, omega arith)

-- ---- numbers

judged_good : (v : Result Figures NumberError) (m : Mode) (f : Frame) (gs : List Frame) (n from i : ℕ) → Ready f gs → Good m f gs (judged v n from i)
judged_good (Ok g) m f gs n from i h = (h, omega arith, omega arith)
judged_good (Err e) m f gs n from i h = tt

pub moved_good : (m : Mode) (f : Frame) (gs : List Frame) (values i b : ℕ) → Fit m f gs → Good m f gs (moved m (surroundings i (kinds f gs) values) b)
moved_good mode.Want f gs values i b h = begun_good mode.Want f gs mode.Want (surroundings i (kinds f gs) values) b (h, omega arith, omega arith) h
moved_good mode.First f gs values i b h =
    cond_both (eqb b 93) _ _ (Good mode.First f gs) (λ _. (listing_closing f gs h, refl))
    (λ _. begun_good mode.First f gs mode.First (surroundings i (kinds f gs) values) b (h, omega arith, omega arith) (listing_ready f gs h))
moved_good mode.FirstKey f gs values i b h = cond_both (eqb b 125) _ _ (Good mode.FirstKey f gs) (λ _. (keyed-closing f gs h, refl)) (λ _. keyed_good mode.FirstKey f gs mode.FirstKey i b (h, omega arith, omega arith) h)
moved_good mode.NextKey f gs values i b h = keyed_good mode.NextKey f gs mode.NextKey i b (h, omega arith, omega arith) h
moved_good mode.Colon f gs values i b h =
    cond_both (white b) _ _ (Good mode.Colon f gs) (λ _. (h, omega arith, omega arith))
    (λ _. cond_both (eqb b 58) _ _ (Good mode.Colon f gs) (λ _. (named_ready f gs h, omega arith, omega arith)) (λ _. tt))
moved_good mode.After f gs values i b h = cond_both (white b) _ _ (Good mode.After f gs) (λ _. (h, omega arith, omega arith)) (λ _. followed_good f gs values i b h)
moved_good (mode.Word w) f gs values i b h = cond_both (eqb b (letter w)) _ _ (Good (mode.Word w) f gs) (λ _. word_good f gs w h) (λ _. tt)
moved_good (mode.Number g from) f gs values i b h = judged_good (figured g b) (mode.Number g from) f gs values from i h
moved_good (mode.Text r x) f gs values i b h = cond_both (closing x b) _ _ (Good (mode.Text r x) f gs) (λ _. quoted_good r x f gs h) (λ _. spelled_good r f gs h i x b)
