use Rattle.std.proofs.Common.{◌≡◌, ◌+◌, ◌*◌, ◌++◌, length, take}
use Rattle.json_values.specs.Meaning.{children, items_of, members_of}
use Rattle.json_values.specs.Texts.{rows_in}
use Rattle.json_writer.specs.Compact.{items_text, members_text}
use Rattle.json_writer.proofs.values.+push_cell.Given as goal

abbrev pub decreases-push_cell : goal.decreases-push_cell
decreases-push_cell l = 2 * length l.view.entries.now + 1

abbrev pub decreases-push_items : goal.decreases-push_items
decreases-push_items l = 2 * length l.view.entries.now

abbrev pub decreases-push_members : goal.decreases-push_members
decreases-push_members l = 2 * length l.view.entries.now

abbrev pub invariant-push_items-loop-i : goal.invariant-push_items-loop-i
invariant-push_items-loop-i l = l.out.items ≡ l.initial.out.items ++ items_text (items_of (take l.i (children (rows_in l.view) l.span)))

abbrev pub invariant-push_members-loop-i : goal.invariant-push_members-loop-i
invariant-push_members-loop-i l = l.out.items ≡ l.initial.out.items ++ members_text (members_of (take l.i (children (rows_in l.view) l.span)))
