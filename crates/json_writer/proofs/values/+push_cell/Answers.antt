use Rattle.std.proofs.Common.{List, ◌++◌, refl, ap, ◌∙◌}
use Rattle.json_writer.specs.Compact.{named}
use Rattle.json_writer.proofs.Entries.{items_step, members_step}
use Rattle.json_writer.proofs.values.+push_cell.Goals as goal

pub push_items-loop-i-preserved : goal.push_items-loop-i-preserved
push_items-loop-i-preserved t c =
    items_step c.args.view c.below.result c.args.span c.loop-i.i _ _ _ c.of-item-items.ensures c.loop-i-test.true c.below.ensures.stores c.below.ensures.entries refl c.loop-i.invariant c.in_ok-push_comma.ensures c.in_ok-push_cell.ensures

pub push_members-loop-i-preserved : goal.push_members-loop-i-preserved
push_members-loop-i-preserved t c =
    let key = c.in_ok-push_key.ensures ∙ ap (λ (k : List _). c.push_comma.new.out.items ++ named k) c.text.ensures in
    members_step c.args.view c.below.result c.args.span c.loop-i.i _ _ _ c.of-member-items.ensures c.loop-i-test.true c.below.ensures.stores c.below.ensures.entries refl c.loop-i.invariant c.in_ok-push_comma.ensures key c.in_ok-push_cell.ensures
