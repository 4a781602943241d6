use Rattle.std.proofs.Common.{◌≡◌, ◌<◌, length, sym, refl, ◌∙◌, arith}
use Rattle.std.proofs.lemmas.Bool.Decides.{nat_tests}
use Rattle.durations.proofs.DurationAmounts.{amount_shrinks}
use Rattle.durations.proofs.DurationSums.{left_next, left_over, left_stuck, left_end}
use Rattle.durations.proofs.duration.read_sum.Goals as goal

pub returns-in_err-nanoseconds-clause-value : goal.returns-in_err-nanoseconds-clause-value
returns-in_err-nanoseconds-clause-value c =
    let some : 0 < length c.loop-rest.rest.now = grind (arith, nat_tests) in
    c.from_residual.ensures ∙ left_stuck _ c.loop-rest.total c.loop-rest.rest.now c.loop-rest.invariant.1 some (sym c.in_err-nanoseconds.ensures.value)

pub returns-then-total-ge-LIMIT-clause-value : goal.returns-then-total-ge-LIMIT-clause-value
returns-then-total-ge-LIMIT-clause-value c =
    let some : 0 < length c.loop-rest.rest.now = grind (arith, nat_tests) in
    left_over _ c.loop-rest.total _ c.loop-rest.rest.now (c.in_ok-nanoseconds.nanoseconds, c.in_ok-nanoseconds.tail.now)
    c.loop-rest.invariant.1 some (sym c.in_ok-nanoseconds.ensures.value) refl (omega arith)

pub loop-rest-smaller : goal.loop-rest-smaller
loop-rest-smaller c = amount_shrinks c.loop-rest.rest.now (c.in_ok-nanoseconds.nanoseconds, c.in_ok-nanoseconds.tail.now) (sym c.in_ok-nanoseconds.ensures.value)

pub loop-rest-preserved : goal.loop-rest-preserved
loop-rest-preserved c =
    let some : 0 < length c.loop-rest.rest.now = grind (arith, nat_tests) in (
      omega arith,
      left_next _ c.loop-rest.total _ c.loop-rest.rest.now (c.in_ok-nanoseconds.nanoseconds, c.in_ok-nanoseconds.tail.now)
          c.loop-rest.invariant.1 some (sym c.in_ok-nanoseconds.ensures.value) refl (omega arith),
    )

pub returns-clause-value : goal.returns-clause-value
returns-clause-value c =
    let none : length c.loop-rest.rest.now ≡ 0 = grind (arith, nat_tests) in
    left_end _ c.loop-rest.total c.loop-rest.rest.now c.loop-rest.invariant.1 none
