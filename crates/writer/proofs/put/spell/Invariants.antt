use Rattle.writer.proofs.Digits.{Spelling}
use Rattle.writer.proofs.put.spell.Given as goal

abbrev pub invariant-loop-left : goal.invariant-loop-left
invariant-loop-left l = Spelling l.n l.left l.from l.digits

abbrev pub decreases-loop-left : goal.decreases-loop-left
decreases-loop-left l = l.left
