use Rattle.std.proofs.Common.{◌≡◌, ◌+◌, ◌≤◌, length}
use Rattle.image_cursor.specs.Tails.{SameEnd}
use Rattle.image_cursor.specs.Walking.{past}
use Rattle.image_cursor.proofs.tail.Tail.behind_value.Given as goal

abbrev pub invariant-loop-left : goal.invariant-loop-left
invariant-loop-left g l = (l.left ≤ length l.tail.rest.now + 1) × SameEnd l.self l.tail × (past g.A.Ask.asked 1 l.self.rest.now ≡ past g.A.Ask.asked l.left l.tail.rest.now)

abbrev pub decreases-loop-left : goal.decreases-loop-left
decreases-loop-left g l = length l.tail.rest.now
