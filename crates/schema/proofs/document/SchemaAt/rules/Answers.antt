use Rattle.std.proofs.Common.{rules, ◌≡◌}
use Rattle.schema.proofs.Below.{rules_below}
use Rattle.schema.specs.Entries.{rules_at}
use Rattle.schema.proofs.document.SchemaAt.rules.Goals as goal

pub returns-clause-within : goal.returns-clause-within
returns-clause-within c =
    let s = c.args.self in
    let e : c.unwrap_or_default.result ≡ rules_at s.doc.text.now s.doc.entries.now s.at = search rules in
    rw e (rules_below s.doc.text.now s.doc.entries.now s.at)
