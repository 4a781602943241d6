use Rattle.std.proofs.Common.{rules, ◌≡◌}
use Rattle.schema.proofs.Below.{links_below}
use Rattle.schema.specs.Entries.{targets_at}
use Rattle.schema.proofs.document.SchemaAt.targets.Goals as goal

pub returns-clause-within : goal.returns-clause-within
returns-clause-within c =
    let s = c.args.self in
    let e : c.unwrap_or_default.result ≡ targets_at s.doc.text.now s.doc.entries.now c.args.group s.at = search rules in
    rw e (links_below s.doc.text.now s.doc.entries.now c.args.group s.at)
