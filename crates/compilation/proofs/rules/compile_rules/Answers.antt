use Rattle.std.proofs.Common.{rules}
use Rattle.compilation.specs.declared.fault.HostFull.{HostFull}
use Rattle.std.proofs.Common.{◌≡◌, ℕ, ◌+◌, ◌≤◌, Bool, cond, List, [], ◌∷◌, ◌++◌, map, length, get_or, drop, Some, Result, sym, refl, ap, ◌∙◌, arith}
use Rattle.compilation.specs.Compiled.{fate_of, full_at}
use Rattle.compilation.specs.Fates.{Fate, StepTaken, all_fated, fated}
use Rattle.compilation.specs.declared.validation.CompilationError.{CompilationError}
use Rattle.compilation.specs.declared.validation.CompilationResult.{CompilationResult}
use Rattle.compilation.proofs.Compiles.{blank, fate_kept, fate_lost, fated_end, fated_full, fated_more}
use Rattle.std.proofs.lemmas.Result.{err_from_is_err_and}
use Rattle.rule_host.specs.Meaning.{Meaning}
use Rattle.schema.specs.Laws.{rule_said}
use Rattle.schema_tree.specs.declared.node.RuleEntry.{RuleEntry}
use Rattle.std.proofs.lemmas.List.{length_push, map-append}
use Rattle.std.proofs.lemmas.Bool.{le-leb}
use Rattle.compilation.proofs.rules.compile_rules.Goals as goal

pub loop-entry-init : goal.loop-entry-init
loop-entry-init g c =
    let h = g.H.RuleHost in
    let e = c.clear.ensures in
    (refl, sym (ap (λ (z : List (Result CompilationResult CompilationError)). all_fated (h.meaning c.args.host.now) c.args.text.now c.args.rules.now (map fate_of z) (h.accepted c.args.host.now)) e), ap length e)

pub returns-in_err-validation : goal.returns-in_err-validation
returns-in_err-validation g c =
    let h = g.H.RuleHost in
    let m : Meaning = h.meaning c.args.host.now in
    let t = c.args.text.now in
    let rs = c.args.rules.now in
    let k = c.loop-entry.entry-index in
    let acc : List (List ℕ) = h.accepted c.loop-entry.host in
    let known : List Fate = map fate_of c.loop-entry.validations in
    let i = c.loop-entry.invariant in
    let e = c.compile_rule.ensures in
    let l = fate_lost c.compile_rule.result c.map_err.result _ c.in_err-validation.field-0.0 c.map_err.ensures.cases c.in_err-validation.was in
    let q = err_from_is_err_and c.from_residual.result c.from_residual.ensures.1 in
    let r : RuleEntry = get_or rs k blank in
    let step : fated (h.meaning c.loop-entry.host) acc (rule_said t r.rule) ≡ fated m acc (rule_said t r.rule) = ap (λ (x : Meaning). fated x acc (rule_said t r.rule)) i.0 in
    let full = fated_full m t rs k c.loop-entry-test.true blank known acc (sym l.0 ∙ e.answer ∙ ap (λ (x : StepTaken). x.fate) step) in
    let z : full_at c.from_residual.result ≡ Some r.place = let y : c.in_err-validation.field-0.0.place ≡ r.place = search (rules, l.1) in rw q.1 (ap (λ (x : HostFull). Some x.place) q.2 ∙ ap Some y) in
    record {
      kept = e.kept ∙ i.0;
      fated = sym (i.1 ∙ (full ∙ (λ j. record { fates = known; full = sym z j; accepted = sym (e.list ∙ ap (λ (x : StepTaken). x.accepted) step) j })));
    }

pub loop-entry-preserved : goal.loop-entry-preserved
loop-entry-preserved g c =
    let h = g.H.RuleHost in
    let m : Meaning = h.meaning c.args.host.now in
    let t = c.args.text.now in
    let rs = c.args.rules.now in
    let k = c.loop-entry.entry-index in
    let acc : List (List ℕ) = h.accepted c.loop-entry.host in
    let old = c.loop-entry.validations in
    let known : List Fate = map fate_of old in
    let i = c.loop-entry.invariant in
    let e = c.compile_rule.ensures in
    let v = c.in_ok-validation.validation in let f = fate_kept c.compile_rule.result c.map_err.result _ v c.map_err.ensures.cases c.in_ok-validation.was in
    let r : RuleEntry = get_or rs k blank in
    let step : fated (h.meaning c.loop-entry.host) acc (rule_said t r.rule) ≡ fated m acc (rule_said t r.rule) = ap (λ (x : Meaning). fated x acc (rule_said t r.rule)) i.0 in
    let more = fated_more m t rs k c.loop-entry-test.true blank known acc (fate_of v) (sym f ∙ e.answer ∙ ap (λ (x : StepTaken). x.fate) step) in
    let fits : length old + 1 ≤ 256 = omega (arith, i.2, c.loop-entry-test.true, c.requires) in
    let pushed : c.push.new.self ≡ old ++ v ∷ [] = c.push.ensures.list ∙ ap (λ (x : Bool). cond x (old ++ v ∷ []) old) (le-leb (length old + 1) 256 fits) in
    let fates : map fate_of (c.push.new.self) ≡ known ++ fate_of v ∷ [] = ap (map fate_of) pushed ∙ map-append fate_of old (v ∷ []) in (
      e.kept ∙ i.0,
      i.1 ∙ (more ∙ (λ j. all_fated m t (drop (k + 1) rs) (sym fates j) (sym (e.list ∙ ap (λ (x : StepTaken). x.accepted) step) j))),
      ap length pushed ∙ (length_push old v ∙ ap (λ n. n + 1) i.2),
    )

pub returns : goal.returns
returns g c =
    let h = g.H.RuleHost in
    let i = c.loop-entry.invariant in
    let end = fated_end (h.meaning c.args.host.now) c.args.text.now c.args.rules.now c.loop-entry.entry-index (map fate_of c.loop-entry.validations) (h.accepted c.loop-entry.host) c.loop-entry-test.false in
    record { kept = i.0; fated = sym (i.1 ∙ end) }
