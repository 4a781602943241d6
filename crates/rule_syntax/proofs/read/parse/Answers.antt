use Rattle.std.proofs.Common.{◌-◌, ◌≤◌, length, ap, arith}
use Rattle.rule_syntax.proofs.Law.{rules_read}
use Rattle.rule_syntax.proofs.Told.{told_ok, told_err, filled-longer}
use Rattle.rule_syntax.proofs.read.parse.Goals as goal

pub overflow_sub-result : goal.overflow_sub-result
overflow_sub-result g c =
    let h : length c.args.comparisons.now ≤ length c.read_rule.new.comparisons = filled-longer g.row.N c.args.expression.now c.args.comparisons.now c.read_rule.new.comparisons tt c.in-Ok.ensures in
    omega (arith, c.len.ensures.value, c.len-start.ensures.value)

pub returns-in-Ok : goal.returns-in-Ok
returns-in-Ok g c = record {
  value =
      told_ok g.row.N c.args.expression.now c.args.comparisons.now c.read_rule.new.comparisons tt c.len-start.result (c.len.result - c.len-start.result) c.in-Ok.ensures
      (omega (arith, c.len.ensures.value, c.len.ensures.few)) c.len-start.ensures.value (ap (λ n. n - c.len-start.result) c.len.ensures.value);
  law = rules_read;
}

pub returns-in-Err : goal.returns-in-Err
returns-in-Err g c = record {
  value = told_err g.row.N c.args.expression.now c.args.comparisons.now c.read_rule.new.comparisons c.truncate.new.self c.len-start.result c.in-Err.refused c.in-Err.ensures c.len-start.ensures.value c.truncate.ensures;
  law = rules_read;
}
