-- What the scanner's frames have of rows, and where they may stand.
use Rattle.std.proofs.Common.{ℕ, List, [], ◌∷◌, ◌++◌}
use Rattle.json_values.specs.Meaning.{Row}
use Rattle.json_scanner.specs.Grammar.{Members}
use Rattle.json_scanner.specs.Grammar as written
use Rattle.json_scanner.specs.Machine.{Frame, bare, sole, items, fields, field}
use Rattle.json_scanner.specs.declared.modes.Hex.TheVariants as hexes
use Rattle.json_scanner.specs.declared.modes.Inside.{Inside}
use Rattle.json_scanner.specs.declared.modes.Inside.TheVariants as inside
use Rattle.json_scanner.specs.declared.modes.Mode.{Mode}
use Rattle.json_scanner.specs.declared.modes.Mode.TheVariants as mode
use Rattle.json_scanner.specs.declared.modes.Role.{Role}
use Rattle.json_scanner.specs.declared.modes.Role.TheVariants as role
use Rattle.json_reader.specs.Values.{value_of, item_rows}

-- ---- rows

-- the members of an object as they were written
unfoldable pub raw_rows : Members → List Row
raw_rows written.none = []
raw_rows (written.with ms k v) = raw_rows ms ++ record { key = k; value = value_of v } ∷ []

abbrev pub frame_rows : Frame → List Row
frame_rows bare = []
frame_rows (sole v) = record { key = []; value = value_of v } ∷ []
frame_rows (items ts) = item_rows ts
frame_rows (fields ms) = raw_rows ms
frame_rows (field ms k) = raw_rows ms

abbrev pub all_rows : Frame → List Frame → List Row
all_rows f [] = frame_rows f
all_rows f (g ∷ gs) = all_rows g gs ++ frame_rows f

-- the key of the value that is to come
abbrev pub frame_key : Frame → List ℕ
frame_key bare = []
frame_key (sole v) = []
frame_key (items ts) = []
frame_key (fields ms) = []
frame_key (field ms k) = k

-- ---- where a frame may stand

abbrev pub Within : List Frame → Type 0
Within [] = ⊥
Within (g ∷ gs) = Unit {0}

abbrev pub Outermost : List Frame → Type 0
Outermost [] = Unit {0}
Outermost (g ∷ gs) = ⊥

-- a value may be put
abbrev pub Ready : Frame → List Frame → Type 0
Ready bare gs = Outermost gs
Ready (sole v) gs = ⊥
Ready (items ts) gs = Within gs
Ready (fields ms) gs = ⊥
Ready (field ms k) gs = Within gs

abbrev pub Listing : Frame → List Frame → Type 0
Listing bare gs = ⊥
Listing (sole v) gs = ⊥
Listing (items ts) gs = Within gs
Listing (fields ms) gs = ⊥
Listing (field ms k) gs = ⊥

-- a key may come
abbrev pub Keyed : Frame → List Frame → Type 0
Keyed bare gs = ⊥
Keyed (sole v) gs = ⊥
Keyed (items ts) gs = ⊥
Keyed (fields ms) gs = Within gs
Keyed (field ms k) gs = ⊥

abbrev pub Named : Frame → List Frame → Type 0
Named bare gs = ⊥
Named (sole v) gs = ⊥
Named (items ts) gs = ⊥
Named (fields ms) gs = ⊥
Named (field ms k) gs = Within gs

-- a value has ended
abbrev pub Done : Frame → List Frame → Type 0
Done bare gs = ⊥
Done (sole v) gs = Outermost gs
Done (items ts) gs = Within gs
Done (fields ms) gs = Within gs
Done (field ms k) gs = ⊥

-- a container may close
abbrev pub Closing : Frame → List Frame → Type 0
Closing bare gs = ⊥
Closing (sole v) gs = ⊥
Closing (items ts) gs = Within gs
Closing (fields ms) gs = Within gs
Closing (field ms k) gs = ⊥

-- each container around is one that a value may be put into
abbrev pub Around : List Frame → Type 0
Around [] = Unit {0}
Around (g ∷ gs) = Ready g gs × Around gs

-- ---- the modes

abbrev pub Quoting : Role → Frame → List Frame → Type 0
Quoting role.Key f gs = Keyed f gs
Quoting role.Value f gs = Ready f gs

abbrev pub Fit : Mode → Frame → List Frame → Type 0
Fit mode.Want f gs = Ready f gs
Fit mode.First f gs = Listing f gs
Fit mode.FirstKey f gs = Keyed f gs
Fit mode.NextKey f gs = Keyed f gs
Fit mode.Colon f gs = Named f gs
Fit mode.After f gs = Done f gs
Fit (mode.Word w) f gs = Ready f gs
Fit (mode.Number n from) f gs = Ready f gs
Fit (mode.Text r x) f gs = Quoting r f gs

-- a value has begun, and is not yet put
abbrev pub begun_role : Role → ℕ
begun_role role.Key = 0
begun_role role.Value = 1

abbrev pub begun_in : Mode → ℕ
begun_in mode.Want = 0
begun_in mode.First = 0
begun_in mode.FirstKey = 0
begun_in mode.NextKey = 0
begun_in mode.Colon = 0
begun_in mode.After = 0
begun_in (mode.Word w) = 1
begun_in (mode.Number n from) = 0
begun_in (mode.Text r x) = begun_role r

-- the bytes of an escape so far, which have not added to the text
abbrev pub inside_credit : Inside → ℕ
inside_credit inside.Plain = 0
inside_credit (inside.Raw t) = 0
inside_credit inside.Escape = 1
inside_credit (inside.Unit hexes.Zero) = 2
inside_credit (inside.Unit (hexes.One a)) = 3
inside_credit (inside.Unit (hexes.Two a b)) = 4
inside_credit (inside.Unit (hexes.Three a b c)) = 5
inside_credit (inside.High u) = 6
inside_credit (inside.HighEscape u) = 7
inside_credit (inside.Low u hexes.Zero) = 8
inside_credit (inside.Low u (hexes.One a)) = 9
inside_credit (inside.Low u (hexes.Two a b)) = 10
inside_credit (inside.Low u (hexes.Three a b c)) = 11

abbrev pub credit : Mode → ℕ
credit mode.Want = 0
credit mode.First = 0
credit mode.FirstKey = 0
credit mode.NextKey = 0
credit mode.Colon = 0
credit mode.After = 0
credit (mode.Word w) = 0
credit (mode.Number n from) = 0
credit (mode.Text r x) = inside_credit x
