-- What was written is read back, and whatever was read can be written and read again.
use Rattle.std.specs.Prelude.{◌≡◌, ℕ, ◌≤◌, true, List, [], length, Ok}
use Rattle.json_values.specs.Meaning.{value_at}
use Rattle.json_values.specs.Value.{Value}
use Rattle.json_values.specs.declared.parts.Source.{Source}
use Rattle.json_values.specs.declared.table.Entry.{Entry}
use Rattle.json_reader.specs.Law.{Taken}
use Rattle.json_reader.specs.Reading.{Outcome, outcome, reading, roomy}
use Rattle.json_reader.specs.Values.{value_of}
use Rattle.json_round_trip.specs.Readable.{Readable, count, nesting}
use Rattle.json_scanner.specs.Grammar.{Tree}
use Rattle.json_scanner.specs.Theorem.{Accepted}
use Rattle.json_writer.specs.Compact.{compact}

-- a value that a text within the limits can be read as
pub record InLimits (v : Value) : Type 0 where
  pub readable : Readable v
  pub shallow : nesting v ≤ 200
  pub few : count v ≤ 4096

-- the answer of reading is the number of an entry that means v
pub record Gives (source : Source) (v : Value) (o : Outcome) : Type 0 where
  pub entry : ℕ
  pub answered : o.answer ≡ Ok entry
  pub means : (texts : Source → List ℕ) → texts source ≡ o.text → value_at texts o.table entry ≡ v

-- what is written of such a value is read as that value, wherever there is room for the text
abbrev pub ReadsBack : Type 0
ReadsBack =
    (source : Source) (v : Value) (stored : List ℕ) (entries : List Entry) → InLimits v → roomy (compact v) stored entries ≡ true
    → Gives source v (outcome source stored entries (reading source (compact v) stored entries))

-- the value of a text within the limits is such a value, and no text for it is shorter than the one that is written
abbrev pub ReadsWithin : Type 0
ReadsWithin = (s : List ℕ) (t : Tree) → Accepted s t → InLimits (value_of t) × (length (compact (value_of t)) ≤ length s)

-- so what was read, is written and is then read into an empty store and an empty table, is the same value
abbrev pub ReadsAgain : Type 0
ReadsAgain =
    (source : Source) (text stored stored_now : List ℕ) (entries entries_now : List Entry) (i : ℕ) → Taken source text stored entries i stored_now entries_now
    → (texts : Source → List ℕ) → texts source ≡ stored_now → (other : Source)
    → Gives other (value_at texts entries_now i) (outcome other [] [] (reading other (compact (value_at texts entries_now i)) [] []))
