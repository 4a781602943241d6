-- The steps in which a schema is loaded, and the first for which there is no room.
use Rattle.std.specs.Prelude.{ℕ, zero, suc, ◌+◌, cond, List, [], ◌∷◌, ◌++◌, map as each, length, Some, None, Option, nat_lt}
use Rattle.json_values.specs.declared.table.Entry.{Entry}
use Rattle.schema.specs.Entries.{linked_at, numbers_in, place_in, rules_at}
use Rattle.schema.specs.RuleEntries.{rule_at}
use Rattle.schema_tree.specs.declared.fault.TreeFault.{TreeFault}
use Rattle.schema_tree.specs.declared.fault.TreeFault.TheVariants.{TreeFull, RulesFull}
use Rattle.schema_tree.specs.declared.node.RuleEntry.{RuleEntry}
use Rattle.std.specs.List.{flat_map}

-- a node, by the place of its first byte; a rule, by its place and what it says
pub data Step : Type 0 where
  node : ℕ → Step
  rule : RuleEntry → Step

-- the rule i
abbrev pub rule_entry : List ℕ → List Entry → ℕ → RuleEntry
rule_entry t es i = record { place = place_in es i; rule = rule_at t es i }

-- rules, one after another
abbrev pub rule_steps : List ℕ → List Entry → List ℕ → List Step
rule_steps t es is = each (λ i. rule (rule_entry t es i)) is

-- the schema i: a node before its rules, and these before what links lead to, k links at most; in what is further nothing is read
unfoldable pub steps : ℕ → List ℕ → List Entry → ℕ → List Step
steps zero t es i = node (place_in es i) ∷ []
steps (suc k) t es i = node (place_in es i) ∷ (rule_steps t es (numbers_in (rules_at t es i)) ++ flat_map (steps k t es) (linked_at t es i))

-- how many nodes were loaded, and which rules
pub record Progress : Type 0 where
  pub nodes : ℕ
  pub rules : List RuleEntry

-- one node more
abbrev pub with_node : Progress → Progress
with_node p = record { nodes = p.nodes + 1; rules = p.rules }

-- one rule more
abbrev pub with_rule : Progress → RuleEntry → Progress
with_rule p r = record { nodes = p.nodes; rules = p.rules ++ r ∷ [] }

-- what is loaded, and the first step for which there is no room: there is room for 512 nodes and 256 rules
unfoldable pub taken : List Step → Progress → Progress × Option TreeFault
taken [] p = (p, None)
taken (node place ∷ more) p = cond (nat_lt p.nodes 512) (taken more (with_node p)) (p, Some (TreeFull place))
taken (rule r ∷ more) p = cond (nat_lt (length p.rules) 256) (taken more (with_rule p r)) (p, Some (RulesFull r.place))
