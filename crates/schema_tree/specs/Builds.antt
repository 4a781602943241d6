-- What loading a part of a schema leaves.
use Rattle.std.specs.Prelude.{◌≡◌, ℕ, ◌+◌, ◌<◌, List, ◌++◌, map as each, length, Option}
use Rattle.json_values.specs.declared.table.Entry.{Entry}
use Rattle.schema.specs.Entries.{value_in}
use Rattle.schema_tree.specs.Stands.{EachStands, Stands, Tables, size, total}
use Rattle.schema_tree.specs.Steps.{Progress, Step, taken}
use Rattle.schema_tree.specs.Tree.{Tree}
use Rattle.schema_tree.specs.declared.fault.TreeFault.{TreeFault}
use Rattle.schema_tree.specs.declared.node.Node.{Node}
use Rattle.schema_tree.specs.declared.node.RuleEntry.{RuleEntry}

abbrev pub tables : Tree → Tables
tables b = record { nodes = b.nodes; rules = b.rules }

abbrev pub progress : Tree → Progress
progress b = record { nodes = b.count; rules = b.rules }

-- a node that has begun stands nowhere yet
abbrev pub HasRoom : Tree → Type 0
HasRoom b = length b.nodes + length b.pending < b.count

-- these steps were taken, up to the first for which there was no room, if there was one
abbrev pub Takes : List Step → Tree → Tree → Option TreeFault → Type 0
Takes steps before after fault = (progress after, fault) ≡ taken steps (progress before)

-- the schemas with these entries were loaded: these are their nodes, and what they link to is in the table
pub record Built (k : ℕ) (t : List ℕ) (es : List Entry) (before after : Tree) (entries : List ℕ) (rows : List Node) : Type 0 where
  pub stand : EachStands (Stands k t es (tables after)) (size k) before.count rows (each (value_in t es) entries)
  pub more_nodes : List Node
  pub nodes : after.nodes ≡ before.nodes ++ more_nodes
  pub more_rules : List RuleEntry
  pub rules : after.rules ≡ before.rules ++ more_rules
  pub counts : after.count ≡ before.count + total (size k) (each (value_in t es) entries)
  pub room : length after.nodes + before.count + length entries ≡ length before.nodes + after.count

-- the same, and their nodes wait behind those that waited
pub record Waits (k : ℕ) (t : List ℕ) (es : List Entry) (before after : Tree) (entries : List ℕ) : Type 0 where
  pub rows : List Node
  pub waits : after.pending ≡ before.pending ++ rows
  pub built : Built k t es before after entries rows
