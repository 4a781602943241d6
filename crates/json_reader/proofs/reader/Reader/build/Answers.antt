use Rattle.std.proofs.Common.{◌≡◌, ◌+◌, drop, Ok, sym, ap, ◌∙◌, subst, arith}
use Rattle.json_scanner.specs.Bytes.{then}
use Rattle.json_reader.specs.Building.{Built, built, building, ended_with, numbered}
use Rattle.json_reader.specs.Notes.{Desk}
use Rattle.json_reader.specs.Targets.{made}
use Rattle.json_reader.proofs.Builds.{Keeps, acted-keeps, building-next, building_stop, building_all}
use Rattle.std.proofs.lemmas.Result.{err_from_is_err_and}
use Rattle.json_reader.proofs.reader.Reader.build.Goals as goal

pub returns-in_err-step-clause-built : goal.returns-in_err-step-clause-built
returns-in_err-step-clause-built c =
    let p = err_from_is_err_and c.from_residual.result c.from_residual.ensures.1 in
    let m = made c.loop-i.self.notes c.loop-i.target in
    rw (p.1, p.2) (c.loop-i.invariant.rest ∙ building_stop c.args.target.now.source c.args.text.now c.loop-i.i c.loop-i.scanner c.step.new.self m c.loop-i-test.true _ c.in_err-step.ensures)

pub loop-i-preserved : goal.loop-i-preserved
loop-i-preserved c =
    let source = c.args.target.now.source in
    let i = c.loop-i.i in
    let s = c.args.text.now in
    let inv = c.loop-i.invariant in
    let m = made c.loop-i.self.notes c.loop-i.target in
    let x = c.in_ok-step.step in
    let same = c.follow.ensures.same in
    let b : made c.follow.new.self.notes c.follow.new.target ≡ built source i x m = c.follow.ensures.built ∙ ap (λ z. built z i x m) inv.same.0 in
    record {
      rest = inv.rest ∙ (building-next source s i c.loop-i.scanner c.step.new.self m c.loop-i-test.true x c.in_ok-step.ensures ∙ ap (λ (z : Built). building source c.step.new.self (i + 1) (drop (i + 1) s) z) (sym b));
      keeps = subst (λ (z : Built). Keeps c.args.target.now.store.now c.args.target.now.table.now z) (sym b) (acted-keeps c.args.target.now.store.now c.args.target.now.table.now source i x.act (ended_with m x.number) inv.keeps);
      same = (same.0 ∙ inv.same.0, same.1 ∙ inv.same.1, same.2 ∙ inv.same.2);
    }

pub returns-in_err-number-clause-built : goal.returns-in_err-number-clause-built
returns-in_err-number-clause-built c =
    let p = err_from_is_err_and c.from_residual-in_err-number.result c.from_residual-in_err-number.ensures.1 in
    let m = made c.loop-i.self.notes c.loop-i.target in
    rw (p.1, p.2) (c.loop-i.invariant.rest ∙ (building_all c.args.target.now.source c.args.text.now c.loop-i.i c.loop-i.scanner m (omega arith) ∙ ap (λ r. then r (λ k. Ok (ended_with m k))) (sym c.in_err-number.ensures)))

pub returns-clause-built : goal.returns-clause-built
returns-clause-built c =
    let m = made c.loop-i.self.notes c.loop-i.target in
    c.loop-i.invariant.rest
    ∙ (building_all c.args.target.now.source c.args.text.now c.loop-i.i c.loop-i.scanner m (omega arith)
    ∙ (ap (λ r. then r (λ k. Ok (ended_with m k))) (sym c.in_ok-number.ensures)
    ∙ ap (λ n. Ok (made n c.loop-i.target)) (ap (λ (d : Desk). numbered c.in_ok-number.number d.notes) (sym c.self-2.view_is) ∙ sym c.add_number.ensures)))
