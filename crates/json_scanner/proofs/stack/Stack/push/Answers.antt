use Rattle.std.proofs.Common.{length, ap, arith}
use Rattle.json_scanner.proofs.Stacks.{opened-length, pushed_kept}
use Rattle.json_scanner.proofs.stack.Stack.push.Goals as goal

pub invariant_of-self : goal.invariant_of-self
invariant_of-self c =
    pushed_kept c.self.inside c.self.invariant c.args.kind (omega (arith, c.requires, ap length c.self.view_is, opened-length c.self.inside c.self.invariant))
