use Rattle.image_cursor.proofs.Positions.{read_to}
use Rattle.image_cursor.proofs.cursor.Cursor.read.Goals as goal

pub returns-clause-at : goal.returns-clause-at
returns-clause-at c =
    let was = c.args.self.now in
    read_to was.bytes.now was.at c.tail.result c.tail.ensures.rest c.tail.ensures.place c.in_ok-head.head c.in_ok-head.behind c.in_ok-head.ensures.end c.in_ok-head.ensures.value
