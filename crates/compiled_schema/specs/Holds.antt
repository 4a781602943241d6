-- What a compiled schema holds.
use Rattle.std.specs.Prelude.{ℕ, List, [], Some, None, Option}
use Rattle.compilation.specs.Fates.{Fate}
use Rattle.json_values.specs.declared.table.Entry.{Entry}
use Rattle.schema_tree.specs.Stands.{Tables}

-- the texts and the values of the schema, its nodes and rules, what became of the rules, and which node is the root
pub record Held : Type 0 where
  pub text : List ℕ
  pub entries : List Entry
  pub tables : Tables
  pub fates : List Fate
  pub root : Option ℕ

-- no schema
abbrev pub nothing : Held
nothing = record { text = []; entries = []; tables = record { nodes = []; rules = [] }; fates = []; root = None }

-- with this root
abbrev pub rooted : ℕ → Held → Held
rooted at h = record { text = h.text; entries = h.entries; tables = h.tables; fates = h.fates; root = Some at }
