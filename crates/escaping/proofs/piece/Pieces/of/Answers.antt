use Rattle.std.proofs.Common.{◌∙◌}
use Rattle.escaping.proofs.Walk.{spelled_word}
use Rattle.escaping.proofs.piece.Pieces.of.Goals as goal

pub returns : goal.returns
returns c = c.new.ensures ∙ spelled_word c.args.name.now c.is_reserved.result c.is_reserved.ensures
