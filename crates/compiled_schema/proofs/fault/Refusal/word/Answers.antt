use Rattle.std.proofs.Common.{sym, ap}
use Rattle.compiled_schema.specs.Faults.{refusal_word}
use Rattle.compiled_schema.proofs.fault.Refusal.word.Goals as goal

pub returns-in-ProgramsFull : goal.returns-in-ProgramsFull
returns-in-ProgramsFull c = ap refusal_word (sym c.in-ProgramsFull.is)
