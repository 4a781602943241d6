use Rattle.std.proofs.Common.{◌<◌, length, arith}
use Rattle.std.proofs.lemmas.List.{length-map}
use Rattle.rule_host.specs.Compiling.{total}
use Rattle.rule_host.specs.Rows.{expression_at, expressions_at}
use Rattle.rule_host.proofs.Room.{room_left}
use Rattle.rule_host.proofs.answer_book.AnswerBook.has_room.Goals as goal

pub returns-then-len-lt-EXPRESSIONS : goal.returns-then-len-lt-EXPRESSIONS
returns-then-len-lt-EXPRESSIONS c =
    let a = c.args.self.now in
    let acc = expressions_at a.book a.accepted in
    let l : length acc < 512 = omega (arith, length-map a.accepted (expression_at a.book), c.len.ensures.value, c.if-len-lt-EXPRESSIONS.true) in
    room_left (length acc) 512 (total acc) a.used (length c.args.expression.now) 65535 l a.counts a.small
