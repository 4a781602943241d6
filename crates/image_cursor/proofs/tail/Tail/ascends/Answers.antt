use Rattle.std.proofs.Common.{◌≡◌, ◌+◌, ◌-◌, Some, sym, ap, ◌∙◌, arith}
use Rattle.image_cursor.proofs.Keys.{order_done, order_more}
use Rattle.image_cursor.specs.Checking.{ordered}
use Rattle.image_cursor.specs.Members.{keyed_by}
use Rattle.std.specs.Option.{option_map}
use Rattle.image_cursor.proofs.tail.Tail.ascends.Goals as goal

pub loop-preserved : goal.loop-preserved
loop-preserved c =
    let before = option_map (λ x. x.now) c.loop.before in
    let left = c.args.count - c.loop.counter in
    let m = keyed_by (c.in-Some.key, c.in-Some.behind) in
    let less : left - 1 ≡ c.args.count - (c.loop.counter + 1) = omega arith in
    (omega arith, c.loop.invariant.1 ∙ order_more left before c.loop.members.rest.now m (omega arith) c.in-Some.ensures ∙ ap (λ n. ordered n (Some m.key) m.rest) less)

pub returns : goal.returns
returns c =
    let before = option_map (λ x. x.now) c.loop.before in
    let none : c.args.count - c.loop.counter ≡ 0 = omega arith in
    sym (c.loop.invariant.1 ∙ ap (λ n. ordered n before c.loop.members.rest.now) none ∙ order_done before c.loop.members.rest.now)
