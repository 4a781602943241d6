-- Refusals by their numbers and words, and where they come from.
use Rattle.std.specs.Prelude.{ℕ, List, codes}
use Rattle.compilation.specs.declared.fault.LoadFault.{LoadFault}
use Rattle.compilation.specs.declared.fault.LoadFault.TheVariants as load
use Rattle.compiled_schema.specs.declared.fault.Fault.{Fault}
use Rattle.compiled_schema.specs.declared.fault.Refusal.{Refusal}
use Rattle.compiled_schema.specs.declared.fault.Refusal.TheVariants.{Malformed, Nested, Number, Crowded, TreeFull, RulesFull, ProgramsFull}
use Rattle.json_values.specs.declared.parts.Source.{Source}
use Rattle.json_values.specs.declared.parts.Source.TheVariants.{Schema}
use Rattle.json_reader.specs.declared.fault.Fault.{Fault as ReadFault}
use Rattle.json_scanner.specs.declared.modes.Fault.{Fault as Flaw}
use Rattle.json_scanner.specs.declared.modes.Fault.TheVariants as flaw

abbrev pub refusal_number : Refusal → ℕ
refusal_number Malformed = 1
refusal_number Nested = 2
refusal_number Number = 3
refusal_number Crowded = 4
refusal_number TreeFull = 5
refusal_number RulesFull = 6
refusal_number ProgramsFull = 7

abbrev pub refusal_word : Refusal → List ℕ
refusal_word Malformed = codes "malformed"
refusal_word Nested = codes "nested"
refusal_word Number = codes "number"
refusal_word Crowded = codes "crowded"
refusal_word TreeFull = codes "tree full"
refusal_word RulesFull = codes "rules full"
refusal_word ProgramsFull = codes "programs full"

-- a flaw of a text
abbrev pub flawed : Source → Flaw → Fault
flawed text (flaw.Malformed p) = record { text = text; place = p; refusal = Malformed }
flawed text (flaw.Nested p) = record { text = text; place = p; refusal = Nested }
flawed text (flaw.Number p) = record { text = text; place = p; refusal = Number }
flawed text (flaw.Crowded p) = record { text = text; place = p; refusal = Crowded }

abbrev pub read_fault : ReadFault → Fault
read_fault f = flawed f.text f.flaw

-- something of a schema that has no room
abbrev pub load_fault : LoadFault → Fault
load_fault (load.TreeFull p) = record { text = Schema; place = p; refusal = TreeFull }
load_fault (load.RulesFull p) = record { text = Schema; place = p; refusal = RulesFull }
load_fault (load.ProgramsFull p) = record { text = Schema; place = p; refusal = ProgramsFull }
