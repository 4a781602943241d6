use Rattle.std.proofs.Common.{◌∙◌}
use Rattle.image_cursor.proofs.Positions.{sought_to}
use Rattle.image_cursor.proofs.cursor.Cursor.find.Goals as goal

pub returns-clause-at : goal.returns-clause-at
returns-clause-at c =
    let was = c.args.self.now in
    c.go.ensures.at ∙ sought_to was.bytes.now was.at c.tail.result c.tail.ensures.rest c.tail.ensures.place c.args.key.now c.sought.result c.sought.ensures.end c.sought.ensures.value
