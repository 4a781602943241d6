use Rattle.rule_syntax.proofs.Readers.{within_behind}
use Rattle.rule_syntax.proofs.read.Reader.skip_and.Goals as goal

pub invariant_of-self : goal.invariant_of-self
invariant_of-self c = record { within = within_behind c.args.self.now.expression.now c.args.self.now.rest.now c.in_ok-self.field-0.now 2 c.args.self.now.within c.in_ok-self.ensures.cases.1 }
