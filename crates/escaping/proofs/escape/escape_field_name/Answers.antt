use Rattle.std.proofs.Common.{sym, ◌∙◌}
use Rattle.writer.proofs.Puts.{went}
use Rattle.escaping.specs.Escape.{escape}
use Rattle.escaping.specs.Left.{pieces_left}
use Rattle.escaping.proofs.Steps.{more_written}
use Rattle.escaping.proofs.escape.escape_field_name.Goals as goal

pub loop-piece-preserved : goal.loop-piece-preserved
loop-piece-preserved c =
    let l = c.loop-piece.writer in
    let i = c.loop-piece.invariant in
    let e = c.in_ok-put.ensures in
    let g = went l.out.now l.at c.in-Some.piece.now (sym e.ok) e.out e.at in
    let m = more_written _ l.out.now _ l.at _ _ c.in-Some.piece.now (escape c.args.name.now) (pieces_left c.loop-piece.piece-iterator) _ g c.in-Some.ensures.steps i.0 i.1 in
    (m.0, m.1, i.2, rw g.long i.3, g.long ∙ i.4, e.name ∙ i.5)
