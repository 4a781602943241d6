-- What loading a schema text says of the text, and what it leaves.
use Rattle.std.specs.Prelude.{◌≡◌, ℕ, ◌⊎◌, List, [], map, Some, None, Ok, Err, Result}
use Rattle.compilation.specs.Fates.{AllNamed, Fate}
use Rattle.compilation.specs.Loading.{loading}
use Rattle.compilation.specs.declared.fault.LoadFault.{LoadFault}
use Rattle.compiled_schema.specs.Faults.{load_fault, read_fault}
use Rattle.compiled_schema.specs.Holds.{Held, nothing}
use Rattle.compiled_schema.specs.declared.fault.Fault.{Fault}
use Rattle.json_values.specs.declared.parts.Source.TheVariants.{Schema}
use Rattle.json_values.specs.declared.table.Entry.{Entry}
use Rattle.json_reader.specs.Law.{Refused, Taken}
use Rattle.json_reader.specs.Values.{value_of}
use Rattle.json_reader.specs.declared.fault.Fault.{Fault as ReadFault}
use Rattle.rule_host.specs.Meaning.{Meaning}
use Rattle.schema.specs.Laws.{rule_said}
use Rattle.schema_tree.specs.Loads.{Loaded}
use Rattle.schema_tree.specs.Steps.{steps}
use Rattle.schema_tree.specs.declared.node.RuleEntry.{RuleEntry}

-- the text was read as the value of the entry `entry`, and the tables stand for it
pub record TakenIn (m : Meaning) (acc : List (List ℕ)) (text : List ℕ) (h : Held) (after : List (List ℕ)) : Type 0 where
  pub entry : ℕ
  pub root : ℕ
  pub reads : Taken Schema text [] [] entry h.text h.entries
  pub rooted : h.root ≡ Some root
  pub loaded : Loaded h.text h.entries h.tables root (value_of reads.tree)
  pub compiled : loading m h.text (steps 65 h.text h.entries entry) 0 [] acc ≡ record { fates = h.fates; accepted = after; fault = None }
  pub named : AllNamed after (map (λ (r : RuleEntry). rule_said h.text r.rule) h.tables.rules) h.fates

-- the text was refused by its reader, and the host was not asked
pub record Unread (acc : List (List ℕ)) (text : List ℕ) (f : Fault) (after : List (List ℕ)) : Type 0 where
  pub why : ReadFault
  pub refused : Refused Schema text [] [] why [] []
  pub fault : f ≡ read_fault why
  pub same : after ≡ acc

-- the text was read, and there was no room for all of it; the host keeps what it accepted
pub record Unloaded (m : Meaning) (acc : List (List ℕ)) (text : List ℕ) (f : Fault) (after : List (List ℕ)) : Type 0 where
  pub stored : List ℕ
  pub entries : List Entry
  pub entry : ℕ
  pub reads : Taken Schema text [] [] entry stored entries
  pub why : LoadFault
  pub fates : List Fate
  pub compiled : loading m stored (steps 65 stored entries entry) 0 [] acc ≡ record { fates = fates; accepted = after; fault = Some why }
  pub fault : f ≡ load_fault why

-- after a refusal there is no schema
abbrev pub Loads : Meaning → List (List ℕ) → List ℕ → Result (Unit {0}) Fault → Held → List (List ℕ) → Type 0
Loads m acc text (Ok x) h after = TakenIn m acc text h after
Loads m acc text (Err f) h after = (h ≡ nothing) × (Unread acc text f after ⊎ Unloaded m acc text f after)
