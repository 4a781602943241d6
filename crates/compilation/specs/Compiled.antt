-- What the compiled rules of a schema stand for.
use Rattle.std.specs.Prelude.{ℕ, Ok, Err, Some, None, Option, Result}
use Rattle.compilation.specs.Fates.{Fate, ill_message, ill_rule, invalid, ready}
use Rattle.compilation.specs.declared.fault.HostFull.{HostFull}
use Rattle.compilation.specs.declared.validation.CompilationError.{CompilationError}
use Rattle.compilation.specs.declared.validation.CompilationError.TheVariants.{InvalidRule, MessageExpressionParse, Parse}
use Rattle.compilation.specs.declared.validation.CompilationResult.{CompilationResult}
use Rattle.fixed.specs.declared.refusal.Full.{Full}

-- the fate that a compiled rule stands for
abbrev pub fate_of : Result CompilationResult CompilationError → Fate
fate_of (Ok r) = ready r.program r.is_transition_rule r.message_program
fate_of (Err (Parse t)) = ill_rule t
fate_of (Err (MessageExpressionParse t)) = ill_message t
fate_of (Err InvalidRule) = invalid

-- the fate in an answer; there is none where the host was full
abbrev pub fate_in : Result (Result CompilationResult CompilationError) Full → Option Fate
fate_in (Ok v) = Some (fate_of v)
fate_in (Err f) = None

-- the place of the rule for which the host was full, if it was
abbrev pub full_at : Result (Unit {0}) HostFull → Option ℕ
full_at (Ok x) = None
full_at (Err h) = Some h.place
