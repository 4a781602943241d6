use Rattle.std.proofs.Common.{◌≡◌, ◌+◌, ◌-◌, true, false, cond, Some, sym, ap, ◌∙◌, arith}
use Rattle.image.specs.Decode.{then}
use Rattle.image_cursor.proofs.Keys.{look_done, look_more, same_test}
use Rattle.image_cursor.specs.Members.{keyed_by}
use Rattle.image_cursor.specs.Walking.{looked_up, skipped}
use Rattle.order.specs.Bytes.{compare_bytes}
use Rattle.std.specs.Ordering.{is_eq}
use Rattle.image_cursor.proofs.tail.Tail.look_up.Goals as goal

pub returns-then-eq-clause-value : goal.returns-then-eq-clause-value
returns-then-eq-clause-value c =
    let key = c.args.key.now in
    let left = c.args.count - c.loop.counter in
    let k = keyed_by (c.in_ok-found.found, c.in_ok-found.value) in
    let turn = c.loop.invariant.2 ∙ look_more left key c.loop.members.rest.now k (omega arith) c.in_ok-found.ensures.value in
    let test : is_eq (compare_bytes k.key key) ≡ true = sym (c.if-eq.ensures ∙ same_test k.key key) in
    sym (turn ∙ ap (λ t. cond t (Some k.rest) (then (skipped k.rest) (looked_up (left - 1) key))) test)

pub returns-in_err-members-clause-value : goal.returns-in_err-members-clause-value
returns-in_err-members-clause-value c =
    let key = c.args.key.now in
    let left = c.args.count - c.loop.counter in
    let k = keyed_by (c.in_ok-found.found, c.in_ok-found.value) in
    let turn = c.loop.invariant.2 ∙ look_more left key c.loop.members.rest.now k (omega arith) c.in_ok-found.ensures.value in
    let test : is_eq (compare_bytes k.key key) ≡ false = sym (c.if-eq.ensures ∙ same_test k.key key) in
    let went = turn ∙ ap (λ t. cond t (Some k.rest) (then (skipped k.rest) (looked_up (left - 1) key))) test in
    rw c.from_residual-in_err-members.ensures (sym (went ∙ ap (λ o. then o (looked_up (left - 1) key)) (sym c.in_err-members.ensures.value)))

pub loop-preserved : goal.loop-preserved
loop-preserved c =
    let key = c.args.key.now in
    let left = c.args.count - c.loop.counter in
    let k = keyed_by (c.in_ok-found.found, c.in_ok-found.value) in
    let turn = c.loop.invariant.2 ∙ look_more left key c.loop.members.rest.now k (omega arith) c.in_ok-found.ensures.value in
    let test : is_eq (compare_bytes k.key key) ≡ false = sym (c.if-eq.ensures ∙ same_test k.key key) in
    let went = turn ∙ ap (λ t. cond t (Some k.rest) (then (skipped k.rest) (looked_up (left - 1) key))) test in
    let less : left - 1 ≡ c.args.count - (c.loop.counter + 1) = omega arith in
    (omega arith, c.loop.invariant.1 ∙ c.in_ok-found.ensures.end ∙ c.in_ok-members.ensures.end, went ∙ ap (λ o. then o (looked_up (left - 1) key)) (sym c.in_ok-members.ensures.value) ∙ ap (λ n. looked_up n key c.in_ok-members.members.rest.now) less)

pub returns-clause-value : goal.returns-clause-value
returns-clause-value c =
    let none : c.args.count - c.loop.counter ≡ 0 = omega arith in
    sym (c.loop.invariant.2 ∙ ap (λ n. looked_up n c.args.key.now c.loop.members.rest.now) none ∙ look_done c.args.key.now c.loop.members.rest.now)
