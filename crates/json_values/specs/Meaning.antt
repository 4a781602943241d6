-- What a table of entries means over the texts that its parts name.
use Rattle.std.specs.Prelude.{◌≡◌, ℕ, Bool, ◌+◌, ◌<◌, ◌≤◌, cond, List, [], ◌∷◌, ◌++◌, length, take, drop, Some, None, Ok, Err, Option, Result, MatchOption, ◌≢◌, nat_lt, slice_index_or}
use Rattle.std.specs.declared.cmp.Ordering.TheVariants.{Less}
use Rattle.fixed.specs.declared.refusal.Full.{Full}
use Rattle.json_values.specs.declared.parts.Part.{Part}
use Rattle.json_values.specs.declared.parts.Source.{Source}
use Rattle.json_values.specs.declared.parts.Source.TheVariants.{Schema}
use Rattle.json_values.specs.declared.table.Span.{Span}
use Rattle.json_values.specs.declared.table.Entry.{Entry}
use Rattle.json_values.specs.declared.table.Cell.{Cell}
use Rattle.json_values.specs.declared.table.Cell.TheVariants as cell
use Rattle.json_values.specs.Value.{Value, Items, Members, null, bool, int, uint, text, list, map, no_item, item, no_member, member}
use Rattle.order.specs.Bytes.{compare_bytes}

-- the bytes of a part, where `texts` has those of each store
abbrev pub part_of : (Source → List ℕ) → Part → List ℕ
part_of texts p = take p.len (drop p.start (texts p.source))

-- what an entry means
pub record Row : Type 0 where
  pub key : List ℕ
  pub value : Value

abbrev pub no_row : Row
no_row = record { key = []; value = null }

abbrev pub no_entry : Entry
no_entry = record { key = record { source = Schema; start = 0; len = 0 }; place = 0; cell = cell.Null }

abbrev pub items_of : List Row → Items
items_of [] = no_item
items_of (r ∷ rs) = item r.value (items_of rs)

abbrev pub members_of : List Row → Members
members_of [] = no_member
members_of (r ∷ rs) = member r.key r.value (members_of rs)

-- those of a container's children
abbrev pub children : {X : Type 0} → List X → Span → List X
children xs sp = take sp.count (drop sp.first xs)

-- the value of a cell, where `rows` has what stands below it
abbrev pub meaning : (Source → List ℕ) → List Row → Cell → Value
meaning texts rows cell.Null = null
meaning texts rows (cell.Bool b) = bool b
meaning texts rows (cell.Int z) = int z
meaning texts rows (cell.Uint n) = uint n
meaning texts rows (cell.Text p) = text (part_of texts p)
meaning texts rows (cell.List sp) = list (items_of (children rows sp))
meaning texts rows (cell.Map sp) = map (members_of (children rows sp))

abbrev pub row_of : (Source → List ℕ) → List Row → Entry → Row
row_of texts rows e = record { key = part_of texts e.key; value = meaning texts rows e.cell }

unfoldable pub rows_from : (Source → List ℕ) → List Row → List Entry → List Row
rows_from texts rows [] = rows
rows_from texts rows (e ∷ es) = rows_from texts (rows ++ row_of texts rows e ∷ []) es

-- what the entries of a table mean, each by those below it
unfoldable pub rows_of : (Source → List ℕ) → List Entry → List Row
rows_of texts entries = rows_from texts [] entries

-- the value of the entry with the number i
abbrev pub value_at : (Source → List ℕ) → List Entry → ℕ → Value
value_at texts entries i = (slice_index_or (rows_of texts entries) i no_row).value

-- ---- what is asked of a table

-- the truth value, the text, the items and the members of a cell that has them
abbrev pub bool_of : Cell → Option Bool
bool_of cell.Null = None
bool_of (cell.Bool b) = Some b
bool_of (cell.Int z) = None
bool_of (cell.Uint n) = None
bool_of (cell.Text p) = None
bool_of (cell.List sp) = None
bool_of (cell.Map sp) = None

abbrev pub part_in : Cell → Option Part
part_in cell.Null = None
part_in (cell.Bool b) = None
part_in (cell.Int z) = None
part_in (cell.Uint n) = None
part_in (cell.Text p) = Some p
part_in (cell.List sp) = None
part_in (cell.Map sp) = None

abbrev pub list_of : Cell → Option Span
list_of cell.Null = None
list_of (cell.Bool b) = None
list_of (cell.Int z) = None
list_of (cell.Uint n) = None
list_of (cell.Text p) = None
list_of (cell.List sp) = Some sp
list_of (cell.Map sp) = None

abbrev pub map_of : Cell → Option Span
map_of cell.Null = None
map_of (cell.Bool b) = None
map_of (cell.Int z) = None
map_of (cell.Uint n) = None
map_of (cell.Text p) = None
map_of (cell.List sp) = None
map_of (cell.Map sp) = Some sp

-- the children of a list or a map
abbrev pub span_of : Cell → Option Span
span_of cell.Null = None
span_of (cell.Bool b) = None
span_of (cell.Int z) = None
span_of (cell.Uint n) = None
span_of (cell.Text p) = None
span_of (cell.List sp) = Some sp
span_of (cell.Map sp) = Some sp

-- the number of an entry that is added where there is room for `room`
abbrev pub placed : ℕ → List Entry → Result ℕ Full
placed room entries = cond (nat_lt (length entries) room) (Ok (length entries)) (Err (record {}))

-- the key of the entry with the number i
abbrev pub key_at : (Source → List ℕ) → List Entry → ℕ → List ℕ
key_at texts entries i = part_of texts (slice_index_or entries i no_entry).key

-- i is one of the entries of a span
abbrev pub Within : List Entry → Span → ℕ → Type 0
Within entries sp i = (sp.first ≤ i) × (i < sp.first + sp.count) × (i < length entries)

-- the keys of a span ascend
abbrev pub Ascending : (Source → List ℕ) → List Entry → Span → Type 0
Ascending texts entries sp = (i j : ℕ) → Within entries sp i → Within entries sp j → i < j → compare_bytes (key_at texts entries i) (key_at texts entries j) ≡ Less

-- r is the number of a member with the key; where keys ascend, there is none only if none has the key
abbrev pub Finds : (Source → List ℕ) → List Entry → Span → List ℕ → Option ℕ → Type 0
Finds texts entries sp key r =
    MatchOption r
    (Ascending texts entries sp → (i : ℕ) → Within entries sp i → key_at texts entries i ≢ key)
    (λ i. Within entries sp i × (key_at texts entries i ≡ key))
