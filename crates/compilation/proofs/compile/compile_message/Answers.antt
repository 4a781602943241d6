use Rattle.std.proofs.Common.{Some, Ok, Err, sym, ap, ◌∙◌}
use Rattle.compilation.specs.Fates.{StepTaken}
use Rattle.compilation.proofs.Compiles.{message_taken}
use Rattle.json_values.specs.Meaning.{part_of}
use Rattle.rule_host.specs.declared.answer.CompileError.TheVariants.{Full}
use Rattle.std.specs.Option.{option_map}
use Rattle.compilation.proofs.compile.compile_message.Goals as goal

pub returns-in-Ok : goal.returns-in-Ok
returns-in-Ok g c =
    let h = g.H.RuleHost in
    let o = ap (option_map (part_of (λ _. c.args.text.now))) c.in-Some.is ∙ ap Some (sym c.of.ensures) in
    let e = c.in-Ok.ensures in
    let t = message_taken (h.meaning c.args.host.now) (h.accepted c.args.host.now) c.args.program c.args.is_transition_rule _ c.of.result.now (Ok c.in-Ok.message) (h.accepted c.compile.new.self) o e.answer e.list in
    record { kept = e.kept; answer = ap (λ (x : StepTaken). x.fate) t; list = ap (λ (x : StepTaken). x.accepted) t }

pub returns-in-Full : goal.returns-in-Full
returns-in-Full g c =
    let h = g.H.RuleHost in
    let o = ap (option_map (part_of (λ _. c.args.text.now))) c.in-Some.is ∙ ap Some (sym c.of.ensures) in
    let e = c.in-Err.ensures in
    let t = message_taken (h.meaning c.args.host.now) (h.accepted c.args.host.now) c.args.program c.args.is_transition_rule _ c.of.result.now (Err Full) (h.accepted c.compile.new.self) o (rw c.in-Full.is at e.answer) e.list in
    record { kept = e.kept; answer = ap (λ (x : StepTaken). x.fate) t; list = ap (λ (x : StepTaken). x.accepted) t }
