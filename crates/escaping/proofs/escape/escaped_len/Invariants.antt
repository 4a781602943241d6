use Rattle.std.proofs.Common.{◌≡◌, ◌+◌, ◌^◌, ◌<◌, length}
use Rattle.std.specs.List.{concat}
use Rattle.escaping.specs.Escape.{escape}
use Rattle.escaping.specs.Left.{pieces_left}
use Rattle.escaping.proofs.escape.escaped_len.Given as goal

abbrev pub invariant-loop-piece : goal.invariant-loop-piece
invariant-loop-piece l = (l.len + length (concat (pieces_left l.piece-iterator)) ≡ length (escape l.name)) × (l.len < 2 ^ 64)
