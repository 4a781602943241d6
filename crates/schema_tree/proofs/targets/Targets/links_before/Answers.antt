use Rattle.std.proofs.Common.{rules, ◌≡◌, ◌+◌, get_or, take, ap, ◌∙◌, arith}
use Rattle.json_values.specs.declared.table.Span.{Span}
use Rattle.schema.specs.Parts.{order}
use Rattle.schema.specs.declared.group.Group.{Group}
use Rattle.schema.specs.declared.group.Group.TheVariants.{Properties}
use Rattle.schema_tree.specs.Nodes.{target}
use Rattle.schema_tree.proofs.Groups.{place_before}
use Rattle.std.proofs.lemmas.List.{take_more}
use Rattle.std.proofs.lemmas.List.Sums.{sum_by_push}
use Rattle.std.specs.List.{sum_by}
use Rattle.schema_tree.proofs.targets.Targets.links_before.Goals as goal

pub loop-other-preserved : goal.loop-other-preserved
loop-other-preserved c =
    let i = c.loop-other.other-index in
    let inv = c.loop-other.invariant in
    let count = λ (h : Group). (target c.args.self h).count in
    let n : c.of.result.count ≡ count (get_or order i Properties) = ap (λ (sp : Span). sp.count) c.of.ensures in
    let sum : sum_by count (take (i + 1) order) ≡ sum_by count (take i order) + count (get_or order i Properties) = ap (sum_by count) (take_more order i Properties c.loop-other-test.true) ∙ sum_by_push count (take i order) (get_or order i Properties) in
    (omega (arith, inv.0, n, sum), omega (arith, inv.1), place_before c.args.group i inv.2 (search rules))
