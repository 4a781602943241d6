use Rattle.json_values.specs.Texts.{texts_of}
use Rattle.json_values.proofs.Seeks.{absent}
use Rattle.json_values.proofs.view.View.member.Goals as goal

pub returns-clause-found : goal.returns-clause-found
returns-clause-found c =
    let i = c.loop-low.invariant in
    absent (texts_of c.args.self.stores) c.args.self.entries.now c.args.span c.args.key.now _ _ _ c.of-members.ensures c.loop-low-test.false i.2 i.3
