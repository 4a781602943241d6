use Rattle.std.proofs.Common.{sym, subst, ◌∙◌, arith, ◌+◌}
use Rattle.escaping.proofs.Shared.{Passed, found, half_passed, second_passed, sign_passed}
use Rattle.escaping.proofs.compare.shared_len.Goals.{then-sign-ne95, then-sign-ne95-via-then-sign-ne95, then-sign-ne95-via-else-sign-ne95+then-shared-i, else-sign-ne95+else-shared-i}
use Rattle.escaping.proofs.compare.shared_len.Goals as goal

pub loop-i-preserved : goal.loop-i-preserved
loop-i-preserved c =
    let a = c.args.a.now in
    let b = c.args.b.now in
    let k = c.loop-i.shared in
    let i = c.loop-i.i in
    let f = found c.get.result _ b i c.get.ensures.lookup.0 c.get.ensures.lookup.1 (sym c.ne.ensures ∙ c.if-ne.false) in
    elim c.if-sign-ne95.branch [
      | then-sign-ne95 w ↦ subst (λ k. Passed a b k (i + 1)) (sym w.shared-is) (elim w.then-sign-ne95.branch [
        | then-sign-ne95-via-then-sign-ne95 v ↦ sign_passed a b k i c.loop-i.invariant (omega arith) f.0 f.1 v.if-sign-ne95.true
        | then-sign-ne95-via-else-sign-ne95+then-shared-i v ↦ second_passed a b k i c.loop-i.invariant (omega arith) f.0 f.1 v.if-shared-i.true
      ])
      | else-sign-ne95+else-shared-i w ↦ subst (λ k. Passed a b k (i + 1)) (sym w.shared-is) (half_passed a b k i c.loop-i.invariant (omega arith) f.0 f.1 w.if-sign-ne95.false w.if-shared-i.false)
    ]
