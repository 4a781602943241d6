use Rattle.std.proofs.Common.{Ok, Err, rules}
use Rattle.json_reader.proofs.Whole.{law_by}
use Rattle.json_reader.proofs.reader.Reader.read.Goals as goal

pub returns-in-Err-clause-law : goal.returns-in-Err-clause-law
returns-in-Err-clause-law c =
    law_by c.args.source c.args.store.now c.args.table.now c.args.text.now (Err (record { text = c.args.source; flaw = c.in-Err.flaw })) _ _ (search rules) (search rules) (search rules)

pub returns-clause-law : goal.returns-clause-law
returns-clause-law c =
    law_by c.args.source c.args.store.now c.args.table.now c.args.text.now (Ok c.len-root.result) c.match-first.store c.match-first.table (search rules) (search rules) (search rules)
