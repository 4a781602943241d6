-- What callers see of a schema in tables.
use Rattle.std.specs.Prelude.{ℕ, List}
use Rattle.schema_tree.specs.declared.node.Node.{Node}
use Rattle.schema_tree.specs.declared.node.RuleEntry.{RuleEntry}

-- the nodes in the table, those that wait for it, the rules, and how many nodes have begun
pub record Tree : Type 0 where
  pub nodes : List Node
  pub pending : List Node
  pub rules : List RuleEntry
  pub count : ℕ
