use Rattle.std.proofs.Common.{◌+◌, ◌-◌, ◌*◌, None, take}
use Rattle.schema.specs.Entries.{numbers_in, targets_at}
use Rattle.schema.specs.Parts.{order}
use Rattle.schema_tree.specs.Builds.{Takes, Waits}
use Rattle.schema_tree.specs.Steps.{steps}
use Rattle.std.specs.List.{flat_map, range_with_len}
use Rattle.schema_tree.proofs.tree.SchemaTree.+load_group_load_links_load_node.Given as goal

abbrev pub decreases-load_group : goal.decreases-load_group
decreases-load_group l = 3 * l.levels + 1

abbrev pub decreases-load_links : goal.decreases-load_links
decreases-load_links l = 3 * l.levels + 2

abbrev pub decreases-load_node : goal.decreases-load_node
decreases-load_node l = 3 * l.levels

abbrev pub invariant-load_group-loop-i : goal.invariant-load_group-loop-i
invariant-load_group-loop-i l =
    Takes (flat_map (steps l.levels l.schema.doc.text.now l.schema.doc.entries.now) (range_with_len l.initial.i (l.i - l.initial.i))) l.initial.self l.self None
    × Waits l.levels l.schema.doc.text.now l.schema.doc.entries.now l.initial.self l.self (range_with_len l.initial.i (l.i - l.initial.i))

abbrev pub invariant-load_links-loop-group : goal.invariant-load_links-loop-group
invariant-load_links-loop-group l =
    Takes (flat_map (λ g. flat_map (steps l.levels l.schema.doc.text.now l.schema.doc.entries.now) (numbers_in (targets_at l.schema.doc.text.now l.schema.doc.entries.now g l.schema.at))) (take l.group-index order)) l.initial.self l.self None
    × Waits l.levels l.schema.doc.text.now l.schema.doc.entries.now l.initial.self l.self (flat_map (λ g. numbers_in (targets_at l.schema.doc.text.now l.schema.doc.entries.now g l.schema.at)) (take l.group-index order))
