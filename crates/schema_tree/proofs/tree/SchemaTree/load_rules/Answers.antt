use Rattle.std.proofs.Common.{rules, ◌≡◌, ℕ, ◌+◌, ◌-◌, List, [], ◌∷◌, ◌++◌, map, None, sym, ap, ◌∙◌, subst, append_assoc, arith}
use Rattle.json_values.specs.declared.table.Span.{Span}
use Rattle.schema.specs.Entries.{numbers_in, rules_at}
use Rattle.schema_tree.specs.Builds.{Takes, progress}
use Rattle.schema_tree.specs.Steps.{Step, rule, rule_entry, rule_steps, taken}
use Rattle.schema_tree.specs.Tree.{Tree}
use Rattle.schema_tree.specs.declared.node.RuleEntry.{RuleEntry}
use Rattle.schema_tree.proofs.Lists.{range_at, range_more, range_none}
use Rattle.schema_tree.proofs.Taking.{each_on, each_out, none_taken}
use Rattle.std.proofs.lemmas.List.Concat.{flat_map_single}
use Rattle.std.proofs.lemmas.List.{append-nil, map-append}
use Rattle.std.proofs.lemmas.Result.{err_from_is_err_and}
use Rattle.std.specs.List.{flat_map, range_with_len}
use Rattle.schema_tree.proofs.tree.SchemaTree.load_rules.Goals as goal

pub loop-k-init : goal.loop-k-init
loop-k-init c =
    let entry = rule_entry c.args.schema.doc.text.now c.args.schema.doc.entries.now in
    let a : Tree = c.args.self.now in
    let none = range_none c.rules-span.result.first in (
      subst (λ ns. Takes (flat_map (λ k. rule (entry k) ∷ []) ns) a a None) (sym none) (none_taken (progress a)),
      ap (λ z. record a { rules = z }) (sym (ap (λ ns. a.rules ++ map entry ns) none ∙ append-nil a.rules)),
    )

pub returns-in_err-add_rule-clause-taken : goal.returns-in_err-add_rule-clause-taken
returns-in_err-add_rule-clause-taken c =
    let entry = rule_entry c.args.schema.doc.text.now c.args.schema.doc.entries.now in
    let f : ℕ → List Step = λ k. rule (entry k) ∷ [] in
    let sp : Span = c.rules-span.result in
    let end : ℕ = sp.first + sp.count in
    let k : ℕ = c.loop-k.k in
    let a = progress c.args.self.now in
    let p = err_from_is_err_and c.from_residual.result c.from_residual.ensures.1 in
    let e : RuleEntry = record { place = c.place.result; rule = c.rule.result } in
    let is : e ≡ entry k = search rules in
    let n : end - sp.first ≡ sp.count = omega arith in
    let whole : flat_map f (range_with_len sp.first (end - sp.first)) ≡ rule_steps c.args.schema.doc.text.now c.args.schema.doc.entries.now (numbers_in (rules_at c.args.schema.doc.text.now c.args.schema.doc.entries.now c.args.schema.at)) =
    flat_map_single (λ k. rule (entry k)) (range_with_len sp.first (end - sp.first)) ∙ ap (λ ns. rule_steps c.args.schema.doc.text.now c.args.schema.doc.entries.now ns) (ap (range_with_len sp.first) n ∙ ap numbers_in c.rules-span.ensures.value) in
    rw (p.1, p.2) (each_out f (range_with_len sp.first (k - sp.first)) k a (progress c.loop-k.self) (progress c.add_rule.new.self) c.loop-k.invariant.0 (range_with_len (k + 1) (end - (k + 1))) (range_with_len sp.first (end - sp.first)) _ (range_at sp.first k end c.loop-k.auto.k c.loop-k-test.true) (c.in_err-add_rule.ensures.taken ∙ ap (λ r. taken (rule r ∷ []) (progress c.loop-k.self)) is) ∙ ap (λ ss. taken ss a) whole)

pub loop-k-preserved : goal.loop-k-preserved
loop-k-preserved c =
    let entry = rule_entry c.args.schema.doc.text.now c.args.schema.doc.entries.now in
    let f : ℕ → List Step = λ k. rule (entry k) ∷ [] in
    let sp : Span = c.rules-span.result in
    let k : ℕ = c.loop-k.k in
    let a : Tree = c.args.self.now in
    let e : RuleEntry = record { place = c.place.result; rule = c.rule.result } in
    let is : e ≡ entry k = search rules in
    let more = range_more sp.first k c.loop-k.auto.k in
    let added = c.in_ok-add_rule.ensures in
    let done : List RuleEntry = map entry (range_with_len sp.first (k - sp.first)) in
    let with_one : map entry (range_with_len sp.first (k + 1 - sp.first)) ≡ done ++ entry k ∷ [] = ap (map entry) more ∙ map-append entry (range_with_len sp.first (k - sp.first)) (k ∷ []) in
    let all : c.add_rule.new.self.rules ≡ a.rules ++ map entry (range_with_len sp.first (k + 1 - sp.first)) =
    added.rules
    ∙ (ap (λ (z : Tree). z.rules ++ e ∷ []) c.loop-k.invariant.1
    ∙ (ap (λ r. (a.rules ++ done) ++ r ∷ []) is ∙ (append_assoc a.rules done (entry k ∷ []) ∙ ap (λ z. a.rules ++ z) (sym with_one)))) in (
      subst (λ ns. Takes (flat_map f ns) a c.add_rule.new.self None) (sym more) (each_on f (range_with_len sp.first (k - sp.first)) k (progress a) (progress c.loop-k.self) (progress c.add_rule.new.self) c.loop-k.invariant.0 None (c.in_ok-add_rule.ensures.taken ∙ ap (λ r. taken (rule r ∷ []) (progress c.loop-k.self)) is)),
      added.stays ∙ (ap (λ z. record c.loop-k.self { rules = z }) all ∙ ap (λ (s : Tree). record s { rules = a.rules ++ map entry (range_with_len sp.first (k + 1 - sp.first)) }) c.loop-k.invariant.1),
    )
