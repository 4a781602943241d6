use Rattle.std.proofs.Common.{Err, sym, ap, ◌∙◌, arith}
use Rattle.std.proofs.lemmas.Result.{err_from_is_err_and}
use Rattle.json_scanner.specs.Machine.{forgotten, fresh, scan}
use Rattle.json_scanner.proofs.Turns.{scan-next, scan_stop, scan-ended}
use Rattle.json_scanner.proofs.check.scan_text.Goals as goal

pub returns-in_err-step : goal.returns-in_err-step
returns-in_err-step c =
    let p = err_from_is_err_and c.from_residual.result c.from_residual.ensures.1 in
    rw (p.1, p.2) (sym (ap forgotten (c.loop-i.invariant ∙ scan_stop c.args.text.now c.loop-i.i c.loop-i.scanner c.step.new.self c.loop-i-test.true _ c.in_err-step.ensures)))

pub loop-i-preserved : goal.loop-i-preserved
loop-i-preserved c = c.loop-i.invariant ∙ scan-next c.args.text.now c.loop-i.i c.loop-i.scanner c.step.new.self c.loop-i-test.true _ c.in_ok-step.ensures

pub returns-in_err-finish : goal.returns-in_err-finish
returns-in_err-finish c =
    let p = err_from_is_err_and c.from_residual-in_err-finish.result c.from_residual-in_err-finish.ensures.1 in
    rw (p.1, p.2) (scan-ended c.args.text.now c.loop-i.i c.loop-i.scanner (scan fresh 0 c.args.text.now) (Err c.in_err-finish.field-0.0) c.loop-i.invariant (omega arith) c.in_err-finish.ensures)

pub returns : goal.returns
returns c = scan-ended c.args.text.now c.loop-i.i c.loop-i.scanner (scan fresh 0 c.args.text.now) _ c.loop-i.invariant (omega arith) c.in_ok-finish.ensures
