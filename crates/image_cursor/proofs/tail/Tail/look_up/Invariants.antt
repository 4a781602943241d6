use Rattle.std.proofs.Common.{◌≡◌, ◌-◌, ◌≤◌}
use Rattle.image_cursor.specs.Tails.{SameEnd}
use Rattle.image_cursor.specs.Walking.{looked_up}
use Rattle.image_cursor.proofs.tail.Tail.look_up.Given as goal

abbrev pub invariant-loop : goal.invariant-loop
invariant-loop l = (l.counter ≤ l.count) × SameEnd l.self l.members × (looked_up l.count l.key l.self.rest.now ≡ looked_up (l.count - l.counter) l.key l.members.rest.now)
