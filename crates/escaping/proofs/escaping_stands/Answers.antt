use Rattle.escaping.proofs.Collide.{no_collision, worked_names}
use Rattle.escaping.proofs.escaping_stands.Goals as goal

pub returns : goal.returns
returns c = record { no_collision = no_collision; worked = worked_names }
