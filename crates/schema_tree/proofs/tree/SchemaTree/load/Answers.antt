use Rattle.std.proofs.Common.{◌≡◌, ◌+◌, ◌≤◌, [], ◌∷◌, ◌++◌, length, ap, ◌∙◌, subst, arith}
use Rattle.schema.specs.declared.document.SchemaAt.{SchemaAt}
use Rattle.schema_tree.specs.Builds.{Built}
use Rattle.schema_tree.specs.Stands.{Tables}
use Rattle.schema_tree.specs.Steps.{Progress}
use Rattle.schema_tree.specs.Tree.{Tree}
use Rattle.schema_tree.proofs.Lists.{pushed}
use Rattle.schema_tree.proofs.Loading.{root_loaded}
use Rattle.schema_tree.proofs.tree.SchemaTree.load.Goals as goal

pub returns-in-Ok-clause-loaded : goal.returns-in-Ok-clause-loaded
returns-in-Ok-clause-loaded c =
    let t = c.args.doc.text.now in
    let es = c.args.doc.entries.now in
    let a : Tree = c.clear.new.self in
    let b : Tree = c.load_node.new.self in
    let row = c.in-Ok.node in
    let o = subst (λ (s : SchemaAt). Built 65 s.doc.text.now s.doc.entries.now a b (s.at ∷ []) (row ∷ [])) c.schema.ensures.value c.in-Ok.ensures.built in
    let fields = c.self.view_is in
    let none : a.nodes ≡ [] = ap (λ (z : Tables). z.nodes) c.clear.ensures.tables in
    let zero-count : a.count ≡ 0 = ap (λ (z : Progress). z.nodes) c.clear.ensures.progress in
    let fits : length c.self.inside.nodes + 1 ≤ 512 = omega (arith, c.in-Ok.ensures.room, c.self.invariant.0, ap (λ (z : Tree). length z.nodes) fields, ap (λ (z : Tree). length z.pending) fields, ap (λ (z : Tree). z.count) fields) in
    let end : c.push.new.self ≡ b.nodes ++ row ∷ [] = pushed 512 c.self.inside.nodes c.push.new.self row c.push.ensures.list fits ∙ ap (λ (z : Tree). z.nodes ++ row ∷ []) fields in
    root_loaded t es c.args.root a b _ row c.len-at.result none zero-count o end (ap (λ (z : Tree). z.rules) fields) (c.len-at.ensures.value ∙ ap (λ (z : Tree). length z.nodes) fields)
