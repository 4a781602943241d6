-- What reading a text leaves.
use Rattle.std.specs.Prelude.{ℕ, ◌+◌, Bool, cond, ◌&&◌, List, [], ◌∷◌, length, Some, None, Ok, Err, Option, Result, nat_le}
use Rattle.fixed.specs.Room.{extended}
use Rattle.json_values.specs.declared.parts.Source.{Source}
use Rattle.json_values.specs.declared.table.Entry.{Entry}
use Rattle.json_reader.specs.Building.{Built, blank, building}
use Rattle.json_reader.specs.declared.fault.Fault.{Fault}
use Rattle.json_scanner.specs.Machine.{fresh}
use Rattle.json_scanner.specs.declared.modes.Fault.{Fault as Flaw}
use Rattle.json_scanner.specs.declared.modes.Fault.TheVariants as flaw
use Rattle.std.specs.List.{slice_get}

-- whether there is room for a text behind what the store and the table hold
abbrev pub roomy : List ℕ → List ℕ → List Entry → Bool
roomy text stored entries = nat_le (length stored + length text) 65535 && nat_le (length entries + 4096) 8192

abbrev pub beginning : List ℕ → List Entry → Built
beginning stored entries = record { notes = blank (length stored); text = stored; table = entries }

-- what is built of a text, or its fault; one that there is no room for is refused before anything is read
abbrev pub reading : Source → List ℕ → List ℕ → List Entry → Result Built Flaw
reading source text stored entries = cond (roomy text stored entries) (building source fresh 0 text (beginning stored entries)) (Err (flaw.Crowded 0))

-- the value of the text goes behind the others
abbrev pub rooted : Option Entry → List Entry → List Entry
rooted None entries = entries
rooted (Some e) entries = extended 8192 entries (e ∷ [])

-- the answer, and what the store and the table hold then: after a refusal what they held before
pub record Outcome : Type 0 where
  pub answer : Result ℕ Fault
  pub text : List ℕ
  pub table : List Entry

abbrev pub outcome : Source → List ℕ → List Entry → Result Built Flaw → Outcome
outcome source stored entries (Ok m) = record { answer = Ok (length m.table); text = m.text; table = rooted (slice_get m.notes.pending 0) m.table }
outcome source stored entries (Err f) = record { answer = Err (record { text = source; flaw = f }); text = stored; table = entries }
