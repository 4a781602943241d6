-- The scanner as a machine that takes a byte at a time, and the value that its acts build.
use Rattle.std.specs.Prelude.{ℕ, ◌+◌, List, [], ◌∷◌, ◌++◌, length, Some, None, Ok, Err, Option, Result}
use Rattle.std.proofs.Math.Utf8.{encode}
use Rattle.json_scanner.specs.declared.modes.Container.{Container}
use Rattle.json_scanner.specs.declared.modes.Container.TheVariants as container
use Rattle.json_scanner.specs.declared.modes.Mode.{Mode}
use Rattle.json_scanner.specs.declared.modes.Mode.TheVariants as mode
use Rattle.json_scanner.specs.declared.modes.Act.{Act}
use Rattle.json_scanner.specs.declared.modes.Act.TheVariants as act
use Rattle.json_scanner.specs.declared.modes.Move.{Move}
use Rattle.json_scanner.specs.declared.modes.Piece.{Piece}
use Rattle.json_scanner.specs.declared.modes.Piece.TheVariants as piece
use Rattle.json_scanner.specs.declared.modes.Fault.{Fault}
use Rattle.json_scanner.specs.declared.modes.Fault.TheVariants as fault
use Rattle.json_scanner.specs.declared.modes.Numeral.{Numeral}
use Rattle.json_scanner.specs.declared.modes.Around.{Around}
use Rattle.json_scanner.specs.declared.modes.Ready.{Ready}
use Rattle.json_scanner.specs.declared.modes.Step.{Step}
use Rattle.json_scanner.specs.Grammar.{Tree, Trees, nil, snoc, Members, none, with}
use Rattle.json_scanner.specs.Bytes.{Moved, broken_off, moved, settled, readied, then}

-- ---- the scanner

-- the mode, the containers that are open with the innermost first, and the number of values that have begun
pub record Control : Type 0 where
  pub mode : Mode
  pub around : List Container
  pub values : ℕ

-- before the first byte
abbrev pub fresh : Control
fresh = record { mode = mode.Want; around = []; values = 0 }

-- the container that closes next
abbrev pub innermost : List Container → Option Container
innermost [] = None
innermost (c ∷ cs) = Some c

-- the containers around it
abbrev pub outer : List Container → List Container
outer [] = []
outer (c ∷ cs) = cs

-- what stands around the byte at i
abbrev pub surroundings : ℕ → List Container → ℕ → Around
surroundings i cs values = record { place = i; inner = innermost cs; depth = length cs; values = values }

-- the containers after an act
abbrev pub arranged : Act → List Container → List Container
arranged act.Stay cs = cs
arranged act.Begin cs = cs
arranged (act.Open c) cs = c ∷ cs
arranged act.Close cs = outer cs
arranged (act.Add p) cs = cs
arranged act.Key cs = cs
arranged act.Text cs = cs
arranged act.Null cs = cs
arranged (act.Bool b) cs = cs

-- the number of values after an act
abbrev pub counted : Act → ℕ → ℕ
counted act.Stay n = n
counted act.Begin n = n + 1
counted (act.Open c) n = n + 1
counted act.Close n = n
counted (act.Add p) n = n
counted act.Key n = n
counted act.Text n = n
counted act.Null n = n
counted (act.Bool b) n = n

-- the scanner after a byte, and its answer
abbrev pub arrived : List Container → Ready → Move → Control × Step
arrived cs r m = (record { mode = m.mode; around = arranged m.act cs; values = counted m.act r.values }, record { number = r.number; act = m.act })

-- what the byte b at i does to the scanner, and its answer
abbrev pub turned : ℕ → Control → ℕ → Result (Control × Step) Fault
turned i c b = then (readied b c.mode c.values) (λ r. then (moved r.mode (surroundings i c.around r.values) b) (λ m. Ok (arrived c.around r m)))

-- the state that is left and the answer: at a fault all is as it was
abbrev pub left_with : Control → Result (Control × Step) Fault → Control × Result Step Fault
left_with c (Ok x) = (x.0, Ok x.1)
left_with c (Err f) = (c, Err f)

-- the end of the text at i: a value has ended, and nothing is open
abbrev pub settled_end : ℕ → Mode → Option Container → ℕ → Option Numeral → Result (Option Numeral) Fault
settled_end i mode.Want inner values k = Err (fault.Malformed i)
settled_end i mode.First inner values k = Err (fault.Malformed i)
settled_end i mode.FirstKey inner values k = Err (fault.Malformed i)
settled_end i mode.NextKey inner values k = Err (fault.Malformed i)
settled_end i mode.Colon inner values k = Err (fault.Malformed i)
settled_end i mode.After None values k = Ok k
settled_end i mode.After (Some c) values k = Err (fault.Malformed i)
settled_end i (mode.Word w) inner values k = Err (fault.Malformed i)
settled_end i (mode.Number f from) inner values k = Err (broken_off values from i)
settled_end i (mode.Text r x) inner values k = Err (fault.Malformed i)

-- the end of the text at i: the number that ended there, if one did
abbrev pub finish : ℕ → Control → Result (Option Numeral) Fault
finish i c = then (settled c.mode c.values) (λ r. settled_end i r.mode (innermost c.around) r.values r.number)

-- the rest of the text, whose first byte is the one at i
abbrev pub scan : Control → ℕ → List ℕ → Result (Option Numeral) Fault
scan c i [] = finish i c
scan c i (b ∷ s) = then (turned i c b) (λ x. scan x.0 (i + 1) s)

-- whether a text is refused, and why
abbrev pub forgotten : {X : Type 0} → Result X Fault → Result (Unit {0}) Fault
forgotten (Ok x) = Ok tt
forgotten (Err f) = Err f

-- ---- the value that the acts build

-- what is built of a value that is not at its end: the text before and behind its value, a list, an object, an object with a key whose value is to come
pub data Frame : Type 0 where
  bare : Frame
  sole : Tree → Frame
  items : Trees → Frame
  fields : Members → Frame
  field : Members → List ℕ → Frame

-- a list or an object
abbrev pub kind : Frame → Container
kind bare = container.List
kind (sole v) = container.List
kind (items ts) = container.List
kind (fields ms) = container.Object
kind (field ms k) = container.Object

-- one more value
abbrev pub put : Frame → Tree → Frame
put bare v = sole v
put (sole u) v = sole v
put (items ts) v = items (snoc ts v)
put (fields ms) v = fields ms
put (field ms k) v = fields (with ms k v)

-- a key
abbrev pub naming : Frame → List ℕ → Frame
naming bare k = bare
naming (sole v) k = sole v
naming (items ts) k = items ts
naming (fields ms) k = field ms k
naming (field ms j) k = field ms k

-- the value of a container that closes
abbrev pub wrapped : Frame → Tree
wrapped bare = Tree.null
wrapped (sole v) = v
wrapped (items ts) = Tree.list ts
wrapped (fields ms) = Tree.object ms
wrapped (field ms k) = Tree.object ms

-- `chars` is the text of the string so far, `top` the innermost container (or the text itself), and `below` those around it
pub record State : Type 0 where
  pub mode : Mode
  pub values : ℕ
  pub chars : List ℕ
  pub top : Frame
  pub below : List Frame

-- before the first byte
abbrev pub start : State
start = record { mode = mode.Want; values = 0; chars = []; top = bare; below = [] }

-- the containers that are open, the innermost first
abbrev pub kinds : Frame → List Frame → List Container
kinds f [] = []
kinds f (g ∷ gs) = kind f ∷ kinds g gs

-- what the scanner has of a state
abbrev pub control : State → Control
control st = record { mode = st.mode; around = kinds st.top st.below; values = st.values }

-- the innermost container closes, and is put into the one around it
abbrev pub closed : Mode → ℕ → List ℕ → Frame → List Frame → State
closed m n cs f [] = record { mode = m; values = n; chars = cs; top = f; below = [] }
closed m n cs f (g ∷ gs) = record { mode = m; values = n; chars = cs; top = put g (wrapped f); below = gs }

-- a list or an object that opens
abbrev pub opened : Container → Frame
opened container.List = items nil
opened container.Object = fields none

-- the bytes that a piece adds to a text
abbrev pub bytes_of : Piece → List ℕ
bytes_of (piece.Byte b) = b ∷ []
bytes_of (piece.Char c) = encode c

-- what an act does
abbrev pub performed : Act → Mode → State → State
performed act.Stay m st = record { mode = m; values = st.values; chars = st.chars; top = st.top; below = st.below }
performed act.Begin m st = record { mode = m; values = st.values + 1; chars = st.chars; top = st.top; below = st.below }
performed (act.Open c) m st = record { mode = m; values = st.values + 1; chars = st.chars; top = opened c; below = st.top ∷ st.below }
performed act.Close m st = closed m st.values st.chars st.top st.below
performed (act.Add p) m st = record { mode = m; values = st.values; chars = st.chars ++ bytes_of p; top = st.top; below = st.below }
performed act.Key m st = record { mode = m; values = st.values; chars = []; top = naming st.top st.chars; below = st.below }
performed act.Text m st = record { mode = m; values = st.values; chars = []; top = put st.top (Tree.text st.chars); below = st.below }
performed act.Null m st = record { mode = m; values = st.values; chars = st.chars; top = put st.top Tree.null; below = st.below }
performed (act.Bool b) m st = record { mode = m; values = st.values; chars = st.chars; top = put st.top (Tree.bool b); below = st.below }

-- with the number that ended
abbrev pub with_number : Option Numeral → Frame → Frame
with_number None f = f
with_number (Some k) f = put f (Tree.number k.minus k.size)

-- a state in which the number that ended, if one did, is in its place
abbrev pub with_ended : Option Numeral → State → State
with_ended None st = st
with_ended (Some k) st = record { mode = mode.After; values = st.values + 1; chars = st.chars; top = with_number (Some k) st.top; below = st.below }

-- the state when the byte comes
abbrev pub prepared : Ready → State → State
prepared r st = record { mode = r.mode; values = r.values; chars = st.chars; top = with_number r.number st.top; below = st.below }

-- the act is performed
abbrev pub carried : Moved → State → Result State Fault
carried (Ok m) st = Ok (performed m.act m.mode st)
carried (Err f) st = Err f

-- a byte, where no number ends before it
abbrev pub stepped : ℕ → State → ℕ → Result State Fault
stepped i st b = carried (moved st.mode (surroundings i (kinds st.top st.below) st.values) b) st

-- what the byte b at i does
abbrev pub step : ℕ → State → ℕ → Result State Fault
step i st b = then (readied b st.mode st.values) (λ r. stepped i (prepared r st) b)

-- the value of the text, where nothing is open
abbrev pub only : ℕ → Frame → List Frame → Result Tree Fault
only i f [] = Ok (wrapped f)
only i f (g ∷ gs) = Err (fault.Malformed i)

-- the end of the text at i, where no number ends there
abbrev pub ended : ℕ → Mode → State → Result Tree Fault
ended i mode.Want st = Err (fault.Malformed i)
ended i mode.First st = Err (fault.Malformed i)
ended i mode.FirstKey st = Err (fault.Malformed i)
ended i mode.NextKey st = Err (fault.Malformed i)
ended i mode.Colon st = Err (fault.Malformed i)
ended i mode.After st = only i st.top st.below
ended i (mode.Word w) st = Err (fault.Malformed i)
ended i (mode.Number f from) st = Err (broken_off st.values from i)
ended i (mode.Text r x) st = Err (fault.Malformed i)

-- the end of the text at i
abbrev pub finished : ℕ → State → Result Tree Fault
finished i st = then (settled st.mode st.values) (λ r. ended i r.mode (prepared r st))

-- the rest of the text, whose first byte is the one at i
abbrev pub run : State → ℕ → List ℕ → Result Tree Fault
run st i [] = finished i st
run st i (b ∷ s) = then (step i st b) (λ next. run next (i + 1) s)
