use Rattle.std.proofs.Common.{◌≡◌, ◌+◌, ◌≤◌, length}
use Rattle.std.specs.List.{concat}
use Rattle.writer.specs.Written.{put}
use Rattle.escaping.specs.Escape.{escape}
use Rattle.escaping.specs.Left.{pieces_left}
use Rattle.escaping.proofs.escape.escape_field_name.Given as goal

-- what is left to write has room, and written where the writer stands it gives the whole
abbrev pub invariant-loop-piece : goal.invariant-loop-piece
invariant-loop-piece l =
    (put l.writer.out.now l.writer.at (concat (pieces_left l.piece-iterator)) ≡ put l.initial.writer.out.now 0 (escape l.name))
    × (l.writer.at + length (concat (pieces_left l.piece-iterator)) ≡ length (escape l.name))
    × (l.len ≡ length (escape l.name))
    × (l.len ≤ length l.writer.out.now)
    × (length l.writer.out.now ≡ length l.initial.writer.out.now)
    × (l.writer.out.ghost_name ≡ l.initial.writer.out.ghost_name)
