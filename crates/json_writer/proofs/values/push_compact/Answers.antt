use Rattle.std.proofs.Common.{sym}
use Rattle.json_writer.proofs.Entries.{entry_text}
use Rattle.json_writer.proofs.values.push_compact.Goals as goal

pub returns-in-Some : goal.returns-in-Some
returns-in-Some c =
    rw (← (entry_text c.args.view c.args.k c.below.result c.in-Some.entry (sym c.in-Some.ensures) c.below.ensures.stores c.below.ensures.entries)) c.push_cell.ensures
