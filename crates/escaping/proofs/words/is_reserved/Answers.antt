use Rattle.std.proofs.Common.{◌∙◌}
use Rattle.escaping.specs.Escape.{words}
use Rattle.escaping.proofs.Listed.{listed}
use Rattle.escaping.proofs.words.is_reserved.Goals as goal

pub returns : goal.returns
returns c = c.contains.ensures.value ∙ listed words c.args.name.now
