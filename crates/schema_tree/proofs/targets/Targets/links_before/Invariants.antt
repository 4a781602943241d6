use Rattle.std.proofs.Common.{◌≡◌, ◌*◌, ◌^◌, ◌≤◌, take}
use Rattle.schema.specs.Parts.{order}
use Rattle.schema_tree.specs.Nodes.{place, target}
use Rattle.std.specs.List.{sum_by}
use Rattle.schema_tree.proofs.targets.Targets.links_before.Given as goal

abbrev pub invariant-loop-other : goal.invariant-loop-other
invariant-loop-other l = (l.before ≡ sum_by (λ h. (target l.self h).count) (take l.other-index order)) × (l.before ≤ l.other-index * 2 ^ 64) × (l.other-index ≤ place l.group)
