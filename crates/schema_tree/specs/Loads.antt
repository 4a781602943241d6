-- What loading a schema leaves.
use Rattle.std.specs.Prelude.{◌≡◌, ℕ, ◌+◌, List, [], length, Some}
use Rattle.json_values.specs.Value.{Value}
use Rattle.json_values.specs.declared.table.Entry.{Entry}
use Rattle.schema_tree.specs.Stands.{Stands, Tables, size}
use Rattle.schema_tree.specs.Steps.{Progress}
use Rattle.schema_tree.specs.declared.node.Node.{Node}
use Rattle.std.specs.List.{slice_get}

-- nothing was loaded yet
abbrev pub unloaded : Progress
unloaded = record { nodes = 0; rules = [] }

-- the schema s is in the tables: its root is the node `at`, the last of them, and is number 0 in loading order; what is 65 links below the root is not read
pub record Loaded (t : List ℕ) (es : List Entry) (tables : Tables) (at : ℕ) (s : Value) : Type 0 where
  pub root : Node
  pub found : slice_get tables.nodes at ≡ Some root
  pub last : at + 1 ≡ length tables.nodes
  pub stands : Stands 65 t es tables 0 root s
  pub many : length tables.nodes ≡ size 65 s
