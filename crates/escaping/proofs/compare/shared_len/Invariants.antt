use Rattle.escaping.proofs.Shared.{Passed}
use Rattle.escaping.proofs.compare.shared_len.Given as goal

abbrev pub invariant-loop-i : goal.invariant-loop-i
invariant-loop-i l = Passed l.a l.b l.shared l.i
