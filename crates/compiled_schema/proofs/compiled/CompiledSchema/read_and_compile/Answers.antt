use Rattle.std.proofs.Common.{◌≡◌, ℕ, List, [], map, sym, refl, ap, ◌∙◌, subst, inl, inr}
use Rattle.compilation.specs.Compiled.{fate_of}
use Rattle.compilation.specs.Fates.{AllNamed}
use Rattle.compilation.specs.Loading.{loading}
use Rattle.compiled_schema.specs.Holds.{Held}
use Rattle.compiled_schema.proofs.Reading.{refused_in, taken_in}
use Rattle.json_values.specs.Value.{Value}
use Rattle.json_values.specs.declared.parts.Source.TheVariants.{Schema}
use Rattle.json_values.specs.declared.table.Entry.{Entry}
use Rattle.rule_host.specs.Meaning.{Meaning}
use Rattle.schema.specs.Entries.{value_in}
use Rattle.schema.specs.Laws.{rule_said}
use Rattle.schema_tree.specs.Builds.{tables}
use Rattle.schema_tree.specs.Loads.{Loaded}
use Rattle.schema_tree.specs.Steps.{steps}
use Rattle.schema_tree.specs.declared.node.RuleEntry.{RuleEntry}
use Rattle.std.proofs.lemmas.Result.{err_from_is_err_and}
use Rattle.compiled_schema.proofs.compiled.CompiledSchema.read_and_compile.Goals as goal

pub returns-in_err-entry : goal.returns-in_err-entry
returns-in_err-entry g c =
    let s = c.self.inside in
    let none : s.store ≡ [] = ap (λ (h : Held). h.text) (c.self.view_is ∙ c.requires) in
    let empty : s.table ≡ [] = ap (λ (h : Held). h.entries) (c.self.view_is ∙ c.requires) in
    let p = err_from_is_err_and c.from_residual.result c.from_residual.ensures.1 in
    let fault = c.in_err-entry.field-0.0 in
    let r = refused_in Schema c.args.text.now s.store s.table none empty fault c.read.new.store c.read.new.table c.in_err-entry.ensures.law in
    record { kept = refl; law = rw (p.1, p.2) (inl (record { why = fault; refused = r; fault = refl; same = refl })) }

pub returns-in_err-root : goal.returns-in_err-root
returns-in_err-root g c =
    let h = g.H.RuleHost in
    let m : Meaning = h.meaning c.args.host.now in
    let acc : List (List ℕ) = h.accepted c.args.host.now in
    let s = c.self.inside in
    let none : s.store ≡ [] = ap (λ (h : Held). h.text) (c.self.view_is ∙ c.requires) in
    let empty : s.table ≡ [] = ap (λ (h : Held). h.entries) (c.self.view_is ∙ c.requires) in
    let stored : List ℕ = c.read.new.store in
    let entries : List Entry = c.read.new.table in
    let entry = c.in_ok-entry.entry in
    let reads = taken_in Schema c.args.text.now s.store s.table none empty entry stored entries c.in_ok-entry.ensures.law in
    let a : c.text.result.now ≡ stored = c.text.ensures.value in
    let b : c.as_slice.result.now ≡ entries = c.as_slice.ensures.value in
    let p = err_from_is_err_and c.from_residual-in_err-root.result c.from_residual-in_err-root.ensures.1 in
    let fault = c.in_err-root.field-0.0 in
    let e = c.in_err-root.ensures in
    let done = sym (e.loading ∙ (λ i. loading m (a i) (steps 65 (a i) (b i) entry) 0 [] acc)) in
    record { kept = e.kept; law = rw (p.1, p.2) (inr (record { stored = stored; entries = entries; entry = entry; reads = reads; why = fault; fates = map fate_of c.compile_schema.new.validations; compiled = done; fault = refl })) }

pub returns : goal.returns
returns g c =
    let h = g.H.RuleHost in
    let m : Meaning = h.meaning c.args.host.now in
    let acc : List (List ℕ) = h.accepted c.args.host.now in
    let s = c.self.inside in
    let none : s.store ≡ [] = ap (λ (h : Held). h.text) (c.self.view_is ∙ c.requires) in
    let empty : s.table ≡ [] = ap (λ (h : Held). h.entries) (c.self.view_is ∙ c.requires) in
    let stored : List ℕ = c.read.new.store in
    let entries : List Entry = c.read.new.table in
    let entry = c.in_ok-entry.entry in
    let root = c.in_ok-root.root in
    let tabs = tables c.compile_schema.new.tree in
    let reads = taken_in Schema c.args.text.now s.store s.table none empty entry stored entries c.in_ok-entry.ensures.law in
    let a : c.text.result.now ≡ stored = c.text.ensures.value in
    let b : c.as_slice.result.now ≡ entries = c.as_slice.ensures.value in
    let e = c.in_ok-root.ensures in
    let done = sym (e.loading ∙ (λ i. loading m (a i) (steps 65 (a i) (b i) entry) 0 [] acc)) in
    let l1 = subst (λ (z : List Entry). Loaded c.text.result.now z tabs root (value_in c.text.result.now z entry)) b e.loaded in
    let l2 = subst (λ (z : List ℕ). Loaded z entries tabs root (value_in z entries entry)) a l1 in
    let l3 = subst (λ (v : Value). Loaded stored entries tabs root v) (reads.means (λ _. stored) refl) l2 in
    let n = subst (λ (z : List ℕ). AllNamed (h.accepted c.compile_schema.new.host) (map (λ (r : RuleEntry). rule_said z r.rule) tabs.rules) (map fate_of c.compile_schema.new.validations)) a e.named in
    record { kept = e.kept; law = record { entry = entry; root = root; reads = reads; rooted = refl; loaded = l3; compiled = done; named = n } }
