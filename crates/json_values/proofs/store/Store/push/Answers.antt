use Rattle.json_values.proofs.Keeps.{push_kept}
use Rattle.json_values.proofs.store.Store.push.Goals as goal

pub invariant_of-self : goal.invariant_of-self
invariant_of-self c = push_kept _ c.self.invariant _ c.if-self-ge-ROOM.false
