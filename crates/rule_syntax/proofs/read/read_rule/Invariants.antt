use Rattle.std.proofs.Common.{◌≡◌, List, length}
use Rattle.rule_syntax.specs.declared.rule.Comparison.{Comparison}
use Rattle.rule_syntax.proofs.Rules.{Going, Tabled}
use Rattle.rule_syntax.proofs.read.read_rule.Given as goal

abbrev pub invariant-loop-comparison : goal.invariant-loop-comparison
invariant-loop-comparison g l =
    (cs : List Comparison)
    × Going l.expression cs l.reader.rest.now
    × Tabled g.row.N l.initial.comparisons l.room l.comparisons cs
    × (l.reader.expression.now ≡ l.expression)

abbrev pub decreases-loop-comparison : goal.decreases-loop-comparison
decreases-loop-comparison g l = length l.reader.rest.now
