use Rattle.std.proofs.Common.{◌≡◌, ◌-◌, ◌≤◌, None}
use Rattle.image_cursor.specs.Checking.{ordered}
use Rattle.std.specs.Option.{option_map}
use Rattle.image_cursor.proofs.tail.Tail.ascends.Given as goal

abbrev pub invariant-loop : goal.invariant-loop
invariant-loop l = (l.counter ≤ l.count) × (ordered l.count None l.self.rest.now ≡ ordered (l.count - l.counter) (option_map (λ x. x.now) l.before) l.members.rest.now)
