use Rattle.std.proofs.Common.{◌≡◌, length}
use Rattle.escaping.specs.Left.{bytes_left, pieces_left}
use Rattle.escaping.proofs.compare.EscapedIterator.next.Given as goal

-- a piece that is taken up brings its bytes along
abbrev pub invariant-loop-self : goal.invariant-loop-self
invariant-loop-self l = bytes_left l.self ≡ bytes_left l.initial.self

-- pieces that were not taken up yet
abbrev pub decreases-loop-self : goal.decreases-loop-self
decreases-loop-self l = length (pieces_left l.self.pieces)
