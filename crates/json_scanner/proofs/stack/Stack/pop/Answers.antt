use Rattle.std.proofs.Common.{ap, ◌∙◌}
use Rattle.json_scanner.specs.Machine.{outer}
use Rattle.json_scanner.proofs.Stacks.{pop_opened, popped_kept}
use Rattle.json_scanner.proofs.stack.Stack.pop.Goals as goal

pub invariant_of-self : goal.invariant_of-self
invariant_of-self c = rw c.default.ensures (popped_kept c.self.inside c.self.invariant c.if-self-gt0.true)

pub returns-then-self-gt0 : goal.returns-then-self-gt0
returns-then-self-gt0 c = pop_opened c.self.inside c.self.invariant c.if-self-gt0.true c.default.result ∙ ap outer c.self.view_is
