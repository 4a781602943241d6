use Rattle.std.proofs.Common.{◌∙◌}
use Rattle.image_cursor.proofs.Checks.{checked_decoded}
use Rattle.image_cursor.proofs.Octets.{all_octets}
use Rattle.image_cursor.proofs.tail.Tail.checked.Goals as goal

pub returns-clause-value : goal.returns-clause-value
returns-clause-value c =
    let s = c.args.self.rest.now in
    c.behind_value.ensures.value ∙ checked_decoded s (all_octets s c.args.self.octets)
