-- What the answer of `read` says of the text, by the scanner's machine and its values.
use Rattle.std.specs.Prelude.{◌≡◌, ℕ, ◌+◌, ◌<◌, true, false, ◌⊎◌, List, length, take, Ok, Err, Result}
use Rattle.json_values.specs.Laws.{AllInside, Grown}
use Rattle.json_values.specs.Meaning.{value_at}
use Rattle.json_values.specs.Ordered.{Ordered}
use Rattle.json_values.specs.declared.parts.Source.{Source}
use Rattle.json_values.specs.declared.table.Entry.{Entry}
use Rattle.json_reader.specs.Reading.{roomy}
use Rattle.json_reader.specs.Values.{value_of}
use Rattle.json_reader.specs.declared.fault.Fault.{Fault}
use Rattle.json_scanner.specs.Grammar.{Tree}
use Rattle.json_scanner.specs.Machine.{run, start}
use Rattle.json_scanner.specs.declared.modes.Fault.TheVariants as flaw

-- the text has a value, which is that of the last entry, i; what was stored and tabled before stands in front, and means what it meant
pub record Taken (source : Source) (text stored : List ℕ) (entries : List Entry) (i : ℕ) (stored_now : List ℕ) (entries_now : List Entry) : Type 0 where
  pub tree : Tree
  pub room : roomy text stored entries ≡ true
  pub runs : run start 0 text ≡ Ok tree
  pub last : i + 1 ≡ length entries_now
  pub means : (texts : Source → List ℕ) → texts source ≡ stored_now → value_at texts entries_now i ≡ value_of tree
  pub text_stays : take (length stored) stored_now ≡ stored
  pub table_stays : take (length entries) entries_now ≡ entries
  pub old_stays : (before after : Source → List ℕ) → Grown before after → AllInside before entries → (k : ℕ) → k < length entries → value_at after entries_now k ≡ value_at before entries k

-- the text has a fault, or there is no room for it; the store and the table are as before
pub record Refused (source : Source) (text stored : List ℕ) (entries : List Entry) (f : Fault) (stored_now : List ℕ) (entries_now : List Entry) : Type 0 where
  pub whose : f.text ≡ source
  pub why : ((roomy text stored entries ≡ true) × (run start 0 text ≡ Err f.flaw)) ⊎ ((roomy text stored entries ≡ false) × (f.flaw ≡ flaw.Crowded 0))
  pub same_text : stored_now ≡ stored
  pub same_table : entries_now ≡ entries

abbrev pub ReadsAs : Source → List ℕ → List ℕ → List Entry → Result ℕ Fault → List ℕ → List Entry → Type 0
ReadsAs source text stored entries (Ok i) stored_now entries_now = Taken source text stored entries i stored_now entries_now
ReadsAs source text stored entries (Err f) stored_now entries_now = Refused source text stored entries f stored_now entries_now

-- whatever is read, the members of its maps ascend by their keys
abbrev pub ReadsOrdered : Type 0
ReadsOrdered = (t : Tree) → Ordered (value_of t)
