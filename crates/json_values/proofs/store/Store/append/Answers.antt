use Rattle.std.proofs.Common.{arith}
use Rattle.json_values.proofs.Keeps.{append_kept}
use Rattle.json_values.proofs.store.Store.append.Goals as goal

pub invariant_of-self : goal.invariant_of-self
invariant_of-self c =
    append_kept _ c.self.invariant _ _ _ c.deref_mut.ensures.value c.copy_from_slice.ensures.after (omega (arith, c.self.invariant.within, c.if-more-self.false))
