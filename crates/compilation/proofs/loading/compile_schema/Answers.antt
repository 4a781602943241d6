use Rattle.std.proofs.Common.{◌≡◌, ℕ, List, [], map, Some, None, Option, sym, ap, ◌∙◌, subst}
use Rattle.compilation.specs.Fates.{AllNamed, Fated, all_fated}
use Rattle.compilation.proofs.Names.{fates_named}
use Rattle.compilation.proofs.Passes.{both, two_passes}
use Rattle.rule_host.specs.Meaning.{Meaning}
use Rattle.schema.specs.Laws.{rule_said}
use Rattle.schema_tree.specs.Builds.{progress}
use Rattle.std.specs.Result.{result_err}
use Rattle.schema_tree.specs.Steps.{Progress, steps}
use Rattle.schema_tree.specs.declared.fault.TreeFault.{TreeFault}
use Rattle.schema_tree.specs.declared.node.RuleEntry.{RuleEntry}
use Rattle.std.proofs.lemmas.Result.{err_from_is_err_and}
use Rattle.compilation.proofs.loading.compile_schema.Goals as goal

pub returns-in_err-compiled : goal.returns-in_err-compiled
returns-in_err-compiled g c =
    let h = g.H.RuleHost in
    let m : Meaning = h.meaning c.args.host.now in
    let acc : List (List ℕ) = h.accepted c.args.host.now in
    let t = c.args.doc.text.now in
    let es = c.args.doc.entries.now in
    let tree = c.load-loaded.new.self in
    let p = err_from_is_err_and c.from_residual.result c.from_residual.ensures.1 in
    let e = c.compile_rules-compiled.ensures in
    let f = c.load-loaded.ensures.taken in
    let two = two_passes m t (steps 65 t es c.args.root) (progress tree) (result_err c.load-loaded.result) acc f in
    let x = rw c.in_err-compiled.was at e.fated ∙ ap (λ (z : List RuleEntry). all_fated m t z [] acc) c.rules.ensures.value in
    record {
      kept = e.kept;
      loading = rw (p.1, p.2) (ap (λ (z : Fated). both z (result_err c.load-loaded.result)) x ∙ two);
      tree = ap (λ (z : Progress × Option TreeFault). z.0) f;
      loaded = rw p.1 tt;
      named = rw p.1 tt;
    }

pub returns-in_err-root : goal.returns-in_err-root
returns-in_err-root g c =
    let h = g.H.RuleHost in
    let m : Meaning = h.meaning c.args.host.now in
    let acc : List (List ℕ) = h.accepted c.args.host.now in
    let t = c.args.doc.text.now in
    let es = c.args.doc.entries.now in
    let tree = c.load-loaded.new.self in
    let fault = c.in_err-root.field-0.0 in
    let p = err_from_is_err_and c.from_residual-in_err-root.result c.from_residual-in_err-root.ensures.1 in
    let e = c.compile_rules-compiled.ensures in
    let two = two_passes m t (steps 65 t es c.args.root) (progress tree) (Some fault) acc c.in_err-root.ensures.taken in
    let x = rw c.in_ok-compiled.was at e.fated ∙ ap (λ (z : List RuleEntry). all_fated m t z [] acc) c.rules.ensures.value in
    record {
      kept = e.kept;
      loading = rw (p.1, p.2) (ap (λ (z : Fated). both z (Some fault)) x ∙ two);
      tree = ap (λ (z : Progress × Option TreeFault). z.0) c.in_err-root.ensures.taken;
      loaded = rw p.1 tt;
      named = rw p.1 tt;
    }

pub returns : goal.returns
returns g c =
    let h = g.H.RuleHost in
    let m : Meaning = h.meaning c.args.host.now in
    let acc : List (List ℕ) = h.accepted c.args.host.now in
    let t = c.args.doc.text.now in
    let es = c.args.doc.entries.now in
    let tree = c.load-loaded.new.self in
    let rs = tree.rules in
    let e = c.compile_rules-compiled.ensures in
    let f = c.in_ok-root.ensures.taken in
    let two = two_passes m t (steps 65 t es c.args.root) (progress tree) None acc f in
    let x = rw c.in_ok-compiled.was at e.fated ∙ ap (λ (z : List RuleEntry). all_fated m t z [] acc) c.rules.ensures.value in
    let none : (all_fated m t rs [] acc).full ≡ None = sym (ap (λ (z : Fated). z.full) x) in
    record {
      kept = e.kept;
      loading = ap (λ (z : Fated). both z None) x ∙ two;
      tree = ap (λ (z : Progress × Option TreeFault). z.0) f;
      loaded = c.in_ok-root.ensures.loaded;
      named = subst (λ (z : Fated). AllNamed z.accepted (map (λ (r : RuleEntry). rule_said t r.rule) rs) z.fates) (sym x) (fates_named m t rs [] [] acc tt none);
    }
