use Rattle.std.proofs.Common.{rules}
use Rattle.escaping.proofs.Pieces.{plain_first}
use Rattle.escaping.proofs.piece.first_sign.Goals as goal

pub returns-in-len1-up : goal.returns-in-len1-up
returns-in-len1-up c = plain_first c.args.name.now (search rules) (search rules) (search rules) (search rules) (search rules)
