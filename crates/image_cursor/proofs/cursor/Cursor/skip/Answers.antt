use Rattle.std.proofs.Common.{◌∙◌}
use Rattle.image_cursor.proofs.Positions.{skipped_to}
use Rattle.image_cursor.proofs.cursor.Cursor.skip.Goals as goal

pub returns-clause-at : goal.returns-clause-at
returns-clause-at c =
    let was = c.args.self.now in
    c.go.ensures.at ∙ skipped_to was.bytes.now was.at c.tail.result c.tail.ensures.rest c.tail.ensures.place c.skipped.result c.skipped.ensures.end c.skipped.ensures.value
