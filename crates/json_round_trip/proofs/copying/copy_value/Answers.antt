use Rattle.std.proofs.Common.{rules, Ok}
use Rattle.json_values.specs.Texts.{viewed}
use Rattle.json_round_trip.proofs.Copies.{copies}
use Rattle.json_round_trip.proofs.copying.copy_value.Goals as goal

pub returns-in_err-read-clause-copies : goal.returns-in_err-read-clause-copies
returns-in_err-read-clause-copies c =
    copies c.args.source (viewed c.args.view c.args.k) c.args.store.now c.read.new.store c.args.table.now c.read.new.table c.from_residual-in_err-read.result (search rules)

pub returns-clause-copies : goal.returns-clause-copies
returns-clause-copies c =
    copies c.args.source (viewed c.args.view c.args.k) c.args.store.now c.read.new.store c.args.table.now c.read.new.table (Ok c.in_ok-read.field-0) (search rules)
