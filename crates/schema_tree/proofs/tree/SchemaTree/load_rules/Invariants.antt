use Rattle.std.proofs.Common.{◌≡◌, ◌-◌, ◌∷◌, [], ◌++◌, map, None}
use Rattle.schema_tree.specs.Builds.{Takes}
use Rattle.schema_tree.specs.Steps.{rule, rule_entry}
use Rattle.std.specs.List.{flat_map, range_with_len}
use Rattle.schema_tree.proofs.tree.SchemaTree.load_rules.Given as goal

abbrev pub invariant-loop-k : goal.invariant-loop-k
invariant-loop-k l =
    Takes (flat_map (λ k. rule (rule_entry l.schema.doc.text.now l.schema.doc.entries.now k) ∷ []) (range_with_len l.initial.k (l.k - l.initial.k))) l.initial.self l.self None
    × (l.self ≡ record l.initial.self { rules = l.initial.self.rules ++ map (rule_entry l.schema.doc.text.now l.schema.doc.entries.now) (range_with_len l.initial.k (l.k - l.initial.k)) })
