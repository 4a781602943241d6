use Rattle.std.proofs.Common.{◌≡◌, ◌+◌, ◌-◌, cond, None, sym, ap, ◌∙◌, arith}
use Rattle.image_cursor.proofs.Checks.{none_either}
use Rattle.image_cursor.proofs.Turns.{go, stop}
use Rattle.image_cursor.proofs.Walks.{past_many, past_none, seen_shorter}
use Rattle.image_cursor.specs.Heads.{meaning, seen_by}
use Rattle.image_cursor.specs.Walking.{past}
use Rattle.image_cursor.proofs.tail.Tail.behind_value.Goals.{then-behind-left-via-then-behind-left, then-behind-left-via-else-behind-left+then-not-passes}
use Rattle.image_cursor.proofs.tail.Tail.behind_value.Goals as goal

pub returns-in_err-head-clause-value : goal.returns-in_err-head-clause-value
returns-in_err-head-clause-value g c =
    rw c.from_residual.ensures (sym (c.loop-left.invariant.2 ∙ stop g.A.Ask.asked c.loop-left.tail.rest.now c.loop-left.left c.loop-left-test.true c.in_err-head.ensures.value))

pub overflow_add-left : goal.overflow_add-left
overflow_add-left g c = omega (arith, c.loop-left.tail.counted.1)

pub returns-then-behind-left-clause-value : goal.returns-then-behind-left-clause-value
returns-then-behind-left-clause-value g c =
    let ok = g.A.Ask.asked in
    let h = meaning c.in_ok-head.head in
    let r = c.in_ok-head.behind.rest.now in
    let left = c.loop-left.left - 1 + c.parts.result in
    let turn = c.loop-left.invariant.2 ∙ go ok c.loop-left.tail.rest.now c.loop-left.left left h r c.loop-left-test.true (ap (λ n. c.loop-left.left - 1 + n) c.parts.ensures.value) c.in_ok-head.ensures.value in
    elim c.then-behind-left.branch [
      | then-behind-left-via-then-behind-left w ↦ sym (turn ∙ ap (λ o. cond (ok h r) o None) (past_many ok left r w.if-behind-left.true) ∙ none_either (ok h r))
      | then-behind-left-via-else-behind-left+then-not-passes w ↦ sym (turn ∙ ap (λ t. cond t (past ok left r) None) (sym w.if-not-passes.ensures))
    ]

pub loop-left-smaller : goal.loop-left-smaller
loop-left-smaller g c = seen_shorter c.loop-left.tail.rest.now (seen_by (c.in_ok-head.head, c.in_ok-head.behind)) (sym c.in_ok-head.ensures.value)

pub loop-left-preserved : goal.loop-left-preserved
loop-left-preserved g c =
    let ok = g.A.Ask.asked in
    let h = meaning c.in_ok-head.head in
    let r = c.in_ok-head.behind.rest.now in
    let left = c.loop-left.left - 1 + c.parts.result in
    let turn = c.loop-left.invariant.2 ∙ go ok c.loop-left.tail.rest.now c.loop-left.left left h r c.loop-left-test.true (ap (λ n. c.loop-left.left - 1 + n) c.parts.ensures.value) c.in_ok-head.ensures.value in
    (omega arith, c.loop-left.invariant.1 ∙ c.in_ok-head.ensures.end, turn ∙ ap (λ t. cond t (past ok left r) None) (sym c.if-not-passes.ensures))

pub returns-clause-value : goal.returns-clause-value
returns-clause-value g c =
    let none : c.loop-left.left ≡ 0 = omega arith in
    sym (c.loop-left.invariant.2 ∙ ap (λ n. past g.A.Ask.asked n c.loop-left.tail.rest.now) none ∙ past_none g.A.Ask.asked c.loop-left.tail.rest.now)
