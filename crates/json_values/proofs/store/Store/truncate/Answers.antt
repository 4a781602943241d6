use Rattle.json_values.specs.Zeros.{zeros}
use Rattle.json_values.proofs.Keeps.{cut_kept}
use Rattle.json_values.proofs.store.Store.truncate.Goals as goal

pub invariant_of-self : goal.invariant_of-self
unfolding zeros
invariant_of-self c = cut_kept _ c.self.invariant _ _ _ c.deref_mut.ensures.value (c.fill.ensures.after (λ y e. e)) c.if-n-self.true
