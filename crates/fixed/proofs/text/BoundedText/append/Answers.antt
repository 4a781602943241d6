use Rattle.std.proofs.Common.{rules}
use Rattle.fixed.proofs.Texts.{written_kept}
use Rattle.fixed.proofs.text.BoundedText.append.Goals as goal

pub invariant_of-self : goal.invariant_of-self
invariant_of-self c = written_kept _ _ _ c.self.invariant (search rules) (search rules)
