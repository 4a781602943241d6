use Rattle.std.proofs.Common.{sym}
use Rattle.rule_syntax.proofs.Readers.{operator_within, within_trans}
use Rattle.rule_syntax.proofs.read.Reader.operator.Goals as goal

pub invariant_of-self : goal.invariant_of-self
invariant_of-self c =
    let read = operator_within c.args.self.now.rest.now (c.in_ok-operator.operator, c.in_ok-operator.rest.now) (sym c.in_ok-operator.ensures) in
    record { within = within_trans c.args.self.now.expression.now c.args.self.now.rest.now c.in_ok-operator.rest.now c.args.self.now.within read }
