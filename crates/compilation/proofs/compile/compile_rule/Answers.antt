use Rattle.std.proofs.Common.{◌≡◌, ℕ, Bool, false, List, Some, Ok, Err, codes, Option, unwrap_or, sym, ap, ◌∙◌}
use Rattle.compilation.specs.Fates.{StepTaken, fated, with_message}
use Rattle.compilation.proofs.Compiles.{fated_program, mention_of, rule_taken}
use Rattle.rule_host.specs.Compiling.{compiled, mentions_at}
use Rattle.rule_host.specs.Meaning.{Meaning}
use Rattle.rule_host.specs.declared.answer.CompileError.TheVariants.{Full}
use Rattle.schema.specs.Laws.{rule_said}
use Rattle.schema.specs.Rules.{WrittenRule, rule_means}
use Rattle.compilation.proofs.compile.compile_rule.Goals as goal

pub returns-in-Ok-compile : goal.returns-in-Ok-compile
returns-in-Ok-compile g c =
    let h = g.H.RuleHost in
    let m : Meaning = h.meaning c.args.host.now in
    let acc : List (List ℕ) = h.accepted c.args.host.now in
    let m1 : Meaning = h.meaning c.compile.new.self in
    let acc1 : List (List ℕ) = h.accepted c.compile.new.self in
    let t = c.args.text.now in
    let w : WrittenRule = rule_means t c.in-Ok.rule in
    let n = c.in-Ok-compile.program in
    let e = c.of.result.now in
    let same : e ≡ w.rule = c.of.ensures in
    let prog : (compiled m acc w.rule).0 ≡ Ok n = sym (c.in-Ok-compile.ensures.answer ∙ ap (λ (x : List ℕ). (compiled m acc x).0) same) in
    let list : acc1 ≡ (compiled m acc w.rule).1 = c.in-Ok-compile.ensures.list ∙ ap (λ (x : List ℕ). (compiled m acc x).1) same in
    let kept : m1 ≡ m = c.in-Ok-compile.ensures.kept in
    let asked : mentions_at m1 acc1 n (codes "oldSelf") ≡ Some (m.mentioned w.rule (codes "oldSelf")) = ap (λ (x : Meaning). mentions_at x acc1 n (codes "oldSelf")) kept ∙ (ap (λ (z : List (List ℕ)). mentions_at m z n (codes "oldSelf")) list ∙ mention_of m acc w.rule (codes "oldSelf") n prog) in
    let b : c.unwrap_or-mentions.result ≡ m.mentioned w.rule (codes "oldSelf") = c.unwrap_or-mentions.ensures ∙ ap (λ (o : Option Bool). unwrap_or o false) (c.mentions.ensures ∙ asked) in
    let step : with_message m1 n c.unwrap_or-mentions.result w.message_expression acc1 ≡ fated m acc (rule_said t c.args.rule) =
    (λ i. with_message (kept i) n (b i) w.message_expression (list i)) ∙ (sym (fated_program m acc w n prog) ∙ sym (ap (λ r. fated m acc (rule_said t r)) c.in-Ok.is)) in
    let d = c.compile_message.ensures in
    record {
      kept = d.kept ∙ kept;
      answer = d.answer ∙ ap (λ (x : StepTaken). x.fate) step;
      list = d.list ∙ ap (λ (x : StepTaken). x.accepted) step;
    }

pub returns-in-Full : goal.returns-in-Full
returns-in-Full g c =
    let h = g.H.RuleHost in
    let t = c.args.text.now in
    let e = c.in-Err.ensures in
    let s = rule_taken (h.meaning c.args.host.now) (h.accepted c.args.host.now) (rule_said t c.args.rule) (rule_means t c.in-Ok.rule) c.of.result.now (Err Full) (h.accepted c.compile.new.self) (ap (rule_said t) c.in-Ok.is) c.of.ensures (rw c.in-Full.is at e.answer) e.list in
    record { kept = e.kept; answer = ap (λ (x : StepTaken). x.fate) s; list = ap (λ (x : StepTaken). x.accepted) s }
