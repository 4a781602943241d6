use Rattle.std.proofs.Common.{rules, ◌≡◌, ℕ, suc, ◌+◌, ◌-◌, ◌≤◌, List, [], ◌∷◌, ◌++◌, map, length, get_or, take, drop, None, sym, ap, ◌∙◌, subst, arith}
use Rattle.json_values.specs.declared.table.Span.{Span}
use Rattle.schema.proofs.Below.{links_below}
use Rattle.schema.specs.Entries.{numbers_in, place_in, rules_at, targets_at}
use Rattle.schema.specs.Parts.{order}
use Rattle.schema.specs.declared.document.SchemaAt.{SchemaAt}
use Rattle.schema.specs.declared.group.Group.{Group}
use Rattle.schema.specs.declared.group.Group.TheVariants.{Properties}
use Rattle.schema_tree.specs.Builds.{Built, HasRoom, Takes, Waits, progress}
use Rattle.schema_tree.specs.Nodes.{read_node, unread_node}
use Rattle.schema_tree.specs.Steps.{Step, node, rule_entry, steps, taken}
use Rattle.schema_tree.specs.Tree.{Tree}
use Rattle.schema_tree.specs.declared.node.Node.{Node}
use Rattle.schema_tree.specs.declared.node.RuleEntry.{RuleEntry}
use Rattle.schema_tree.proofs.Building.{waits_join, waits_more, waits_none}
use Rattle.schema_tree.proofs.Lists.{flat_flat, pushed, range_at, range_more, range_none}
use Rattle.schema_tree.proofs.Loading.{node_built, unread_built}
use Rattle.schema_tree.proofs.Taking.{behind, each_on, each_out, links_on, none_taken, rules_out, steps_are, taken_out}
use Rattle.std.proofs.Math.Seq.{split_at}
use Rattle.std.proofs.lemmas.Grind.{flat_map-append}
use Rattle.std.proofs.lemmas.List.{append-nil, take_more}
use Rattle.std.proofs.lemmas.Result.{err_from_is_err_and}
use Rattle.std.specs.List.{flat_map, range_with_len}
use Rattle.schema_tree.proofs.tree.SchemaTree.+load_group_load_links_load_node.Goals as goal

-- ---- the schemas of a group

pub load_group-overflow_add-i-end : goal.load_group-overflow_add-i-end
load_group-overflow_add-i-end m c = let h = links_below c.args.schema.doc.text.now c.args.schema.doc.entries.now c.args.group c.args.schema.at in search (rules, h)

pub load_group-loop-i-init : goal.load_group-loop-i-init
load_group-loop-i-init m c =
    let t = c.args.schema.doc.text.now in
    let es = c.args.schema.doc.entries.now in
    let a : Tree = c.args.self.now in
    let none = range_none c.targets-span.result.first in (
      subst (λ ns. Takes (flat_map (steps c.args.levels t es) ns) a a None) (sym none) (none_taken (progress a)),
      subst (λ ns. Waits c.args.levels t es a a ns) (sym none) (waits_none c.args.levels t es a),
    )

pub load_group-returns-in_err-node-clause-taken : goal.load_group-returns-in_err-node-clause-taken
load_group-returns-in_err-node-clause-taken m c =
    let t = c.args.schema.doc.text.now in
    let es = c.args.schema.doc.entries.now in
    let f : ℕ → List Step = steps c.args.levels t es in
    let sp : Span = c.targets-span.result in
    let end : ℕ = sp.first + sp.count in
    let i : ℕ = c.loop-i.i in
    let a = progress c.args.self.now in
    let b = progress c.loop-i.self in
    let p = err_from_is_err_and c.from_residual.result c.from_residual.ensures.1 in
    let n : end - sp.first ≡ sp.count = omega arith in
    let all : range_with_len sp.first (end - sp.first) ≡ numbers_in (targets_at t es c.args.group c.args.schema.at) = ap (range_with_len sp.first) n ∙ ap numbers_in c.targets-span.ensures.value in
    let one = c.in_err-node.ensures.taken ∙ ap (λ (s : SchemaAt). taken (steps c.args.levels s.doc.text.now s.doc.entries.now s.at) b) c.schema.ensures.value in
    rw (p.1, p.2) (each_out f (range_with_len sp.first (i - sp.first)) i a b (progress c.load_node.new.self) c.loop-i.invariant.0 (range_with_len (i + 1) (end - (i + 1))) (range_with_len sp.first (end - sp.first)) _ (range_at sp.first i end c.loop-i.auto.i c.loop-i-test.true) one ∙ ap (λ ns. taken (flat_map f ns) a) all)

pub load_group-loop-i-preserved : goal.load_group-loop-i-preserved
load_group-loop-i-preserved m c =
    let t = c.args.schema.doc.text.now in
    let es = c.args.schema.doc.entries.now in
    let k : ℕ = c.args.levels in
    let f : ℕ → List Step = steps k t es in
    let first : ℕ = c.targets-span.result.first in
    let i : ℕ = c.loop-i.i in
    let a : Tree = c.args.self.now in
    let b : Tree = c.loop-i.self in
    let d : Tree = c.load_node.new.self in
    let row : Node = c.in_ok-node.node in
    let loaded = c.in_ok-node.ensures in
    let e : Tree = record { nodes = c.self.inside.nodes; pending = c.push.new.self; rules = c.self.inside.rules; count = c.self.inside.count } in
    let more = range_more first i c.loop-i.auto.i in
    let here = c.schema.ensures.value in
    let one = loaded.taken ∙ ap (λ (s : SchemaAt). taken (steps k s.doc.text.now s.doc.entries.now s.at) (progress b)) here in
    let built = subst (λ (s : SchemaAt). Built k s.doc.text.now s.doc.entries.now b d (s.at ∷ []) (row ∷ [])) here loaded.built in
    let fits : length c.self.inside.pending + 1 ≤ 512 = omega (arith, loaded.room, c.self.invariant.0, ap (λ (z : Tree). length z.nodes) c.self.view_is, ap (λ (z : Tree). length z.pending) c.self.view_is, ap (λ (z : Tree). z.count) c.self.view_is) in
    let end = pushed 512 c.self.inside.pending c.push.new.self row c.push.ensures.list fits in
    let is : e ≡ record d { pending = d.pending ++ row ∷ [] } = ap (λ z. record e { pending = z }) end ∙ ap (λ (z : Tree). record z { pending = z.pending ++ row ∷ [] }) c.self.view_is in
    let same : progress d ≡ progress e = sym (ap progress c.self.view_is) in (
      subst (λ z. (z, None) ≡ taken (flat_map f (range_with_len first (i + 1 - first))) (progress a)) same (subst (λ ns. Takes (flat_map f ns) a d None) (sym more) (each_on f (range_with_len first (i - first)) i (progress a) (progress b) (progress d) c.loop-i.invariant.0 None one)),
      subst (λ ns. Waits k t es a e ns) (sym more) (waits_more k t es a b d e (range_with_len first (i - first)) i row c.loop-i.invariant.1 loaded.pending built is),
    )

-- ---- the groups of a node

pub load_links-loop-group-init : goal.load_links-loop-group-init
load_links-loop-group-init m c = (none_taken (progress c.args.self.now), waits_none c.args.levels c.args.schema.doc.text.now c.args.schema.doc.entries.now c.args.self.now)

pub load_links-returns-in_err-load_group-clause-taken : goal.load_links-returns-in_err-load_group-clause-taken
load_links-returns-in_err-load_group-clause-taken m c =
    let t = c.args.schema.doc.text.now in
    let es = c.args.schema.doc.entries.now in
    let f : ℕ → List Step = steps c.args.levels t es in
    let h : Group → List ℕ = λ g. numbers_in (targets_at t es g c.args.schema.at) in
    let k : ℕ = c.loop-group.group-index in
    let a = progress c.args.self.now in
    let p = err_from_is_err_and c.from_residual.result c.from_residual.ensures.1 in
    rw (p.1, p.2) (each_out (λ g. flat_map f (h g)) (take k order) (get_or order k Properties) a (progress c.loop-group.self) (progress c.load_group.new.self) c.loop-group.invariant.0 (drop (suc k) order) order _ (split_at order k Properties c.loop-group-test.true) c.in_err-load_group.ensures.taken ∙ ap (λ ss. taken ss a) (sym (flat_flat f h order)))

pub load_links-loop-group-preserved : goal.load_links-loop-group-preserved
load_links-loop-group-preserved m c =
    let t = c.args.schema.doc.text.now in
    let es = c.args.schema.doc.entries.now in
    let n : ℕ = c.args.levels in
    let f : ℕ → List Step = steps n t es in
    let h : Group → List ℕ = λ g. numbers_in (targets_at t es g c.args.schema.at) in
    let k : ℕ = c.loop-group.group-index in
    let g : Group = get_or order k Properties in
    let a : Tree = c.args.self.now in
    let b : Tree = c.loop-group.self in
    let d : Tree = c.load_group.new.self in
    let more = take_more order k Properties c.loop-group-test.true in
    let ns : flat_map h (take (k + 1) order) ≡ flat_map h (take k order) ++ h g = ap (flat_map h) more ∙ (flat_map-append h (take k order) (g ∷ []) ∙ ap (λ z. flat_map h (take k order) ++ z) (append-nil (h g))) in (
      subst (λ gs. Takes (flat_map (λ x. flat_map f (h x)) gs) a d None) (sym more) (each_on (λ x. flat_map f (h x)) (take k order) g (progress a) (progress b) (progress d) c.loop-group.invariant.0 None c.in_ok-load_group.ensures.taken),
      subst (λ z. Waits n t es a d z) (sym ns) (waits_join n t es a b d (flat_map h (take k order)) (h g) c.loop-group.invariant.1 c.in_ok-load_group.ensures.built),
    )

-- ---- a node

pub load_node-returns-in_err-number-clause-taken : goal.load_node-returns-in_err-number-clause-taken
load_node-returns-in_err-number-clause-taken m c =
    let t = c.args.schema.doc.text.now in
    let es = c.args.schema.doc.entries.now in
    let i : ℕ = c.args.schema.at in
    let a = progress c.args.self.now in
    let p = err_from_is_err_and c.from_residual.result c.from_residual.ensures.1 in
    let begun = c.in_err-number.ensures.taken ∙ ap (λ n. taken (node n ∷ []) a) c.place.ensures in
    rw (p.1, p.2) (taken_out (node (place_in es i) ∷ []) (behind c.args.levels t es i) a (progress c.begin.new.self) _ begun ∙ ap (λ ss. taken ss a) (steps_are c.args.levels t es i))

pub load_node-returns-then-levels-eq0-clause-taken : goal.load_node-returns-then-levels-eq0-clause-taken
load_node-returns-then-levels-eq0-clause-taken m c =
    let t = c.args.schema.doc.text.now in
    let es = c.args.schema.doc.entries.now in
    let i : ℕ = c.args.schema.at in
    let a = progress c.args.self.now in
    let none : c.args.levels ≡ 0 = omega arith in
    c.in_ok-number.ensures.taken ∙ (ap (λ n. taken (node n ∷ []) a) c.place.ensures ∙ (ap (λ ss. taken ss a) (steps_are 0 t es i) ∙ ap (λ k. taken (steps k t es i) a) (sym none)))

pub load_node-returns-then-levels-eq0-clause-built : goal.load_node-returns-then-levels-eq0-clause-built
load_node-returns-then-levels-eq0-clause-built m c =
    let t = c.args.schema.doc.text.now in
    let es = c.args.schema.doc.entries.now in
    let i : ℕ = c.args.schema.at in
    let a : Tree = c.args.self.now in
    let b : Tree = c.begin.new.self in
    let begun = c.in_ok-number.ensures in
    let none : c.args.levels ≡ 0 = omega arith in
    let row : unread_node i a.count ≡ c.unread.result = sym (c.unread.ensures ∙ ap (unread_node i) begun.number.0) in
    subst (λ k. Built k t es a b (i ∷ []) (c.unread.result ∷ [])) (sym none) (subst (λ r. Built 0 t es a b (i ∷ []) (r ∷ [])) row (unread_built t es i a b (begun.stays ∙ ap (λ n. record a { count = n }) begun.number.1)))

pub load_node-returns-in_err-rules-clause-taken : goal.load_node-returns-in_err-rules-clause-taken
load_node-returns-in_err-rules-clause-taken m c =
    let t = c.args.schema.doc.text.now in
    let es = c.args.schema.doc.entries.now in
    let i : ℕ = c.args.schema.at in
    let k : ℕ = c.args.levels - 1 in
    let deep : suc k ≡ c.args.levels = omega arith in
    let a = progress c.args.self.now in
    let begun = c.in_ok-number.ensures.taken ∙ ap (λ n. taken (node n ∷ []) a) c.place.ensures in
    let p = err_from_is_err_and c.from_residual-in_err-rules.result c.from_residual-in_err-rules.ensures.1 in
    rw (p.1, p.2) (rules_out k t es i a (progress c.begin.new.self) (progress c.load_rules.new.self) begun _ c.in_err-rules.ensures.taken ∙ ap (λ n. taken (steps n t es i) a) deep)

pub load_node-returns-in_err-load_links-clause-taken : goal.load_node-returns-in_err-load_links-clause-taken
load_node-returns-in_err-load_links-clause-taken m c =
    let t = c.args.schema.doc.text.now in
    let es = c.args.schema.doc.entries.now in
    let i : ℕ = c.args.schema.at in
    let k : ℕ = c.args.levels - 1 in
    let deep : suc k ≡ c.args.levels = omega arith in
    let a = progress c.args.self.now in
    let begun = c.in_ok-number.ensures.taken ∙ ap (λ n. taken (node n ∷ []) a) c.place.ensures in
    let p = err_from_is_err_and c.from_residual-in_err-load_links.result c.from_residual-in_err-load_links.ensures.1 in
    rw (p.1, p.2) (links_on k t es i a (progress c.begin.new.self) (progress c.load_rules.new.self) begun (progress c.load_links.new.self) _ c.in_ok-rules.ensures.taken c.in_err-load_links.ensures.taken ∙ ap (λ n. taken (steps n t es i) a) deep)

pub load_node-returns : goal.load_node-returns
load_node-returns m c =
    let t = c.args.schema.doc.text.now in
    let es = c.args.schema.doc.entries.now in
    let i : ℕ = c.args.schema.at in
    let k : ℕ = c.args.levels - 1 in
    let deep : suc k ≡ c.args.levels = omega arith in
    let a : Tree = c.args.self.now in
    let b1 : Tree = c.begin.new.self in
    let b : Tree = c.load_rules.new.self in
    let l : Tree = c.load_links.new.self in
    let d : Tree = c.settle-links.new.self in
    let began = c.in_ok-number.ensures in
    let ruled = c.in_ok-rules.ensures in
    let linked = c.in_ok-load_links.ensures in
    let settled = c.settle-links.ensures in
    let ks : List RuleEntry = map (rule_entry t es) (numbers_in (rules_at t es i)) in
    let one : b1 ≡ record a { count = a.count + 1 } = began.stays ∙ ap (λ n. record a { count = n }) began.number.1 in
    let with_rules : b ≡ record b1 { rules = b1.rules ++ ks } = ruled.stays ∙ ap (λ z. record b1 { rules = z }) ruled.rules.1 in
    let begun : b ≡ record a { count = a.count + 1; rules = a.rules ++ ks } = with_rules ∙ ap (λ (z : Tree). record z { rules = z.rules ++ ks }) one in
    let mark : c.len-mark.result ≡ length b.pending = c.len-mark.ensures.value ∙ ap (λ (z : Tree). length z.pending) c.self.view_is in
    let done : d ≡ record l { nodes = l.nodes ++ drop (length b.pending) l.pending; pending = take (length b.pending) l.pending } = settled.moved ∙ ap (λ n. record l { nodes = l.nodes ++ drop n l.pending; pending = take n l.pending }) mark in
    let has : HasRoom b = subst HasRoom (sym with_rules) began.room in
    let all = node_built k t es i a b l d has begun linked.built done in
    let span : c.in_ok-rules.rules ≡ record { first = length a.rules; count = (rules_at t es i).count } = ruled.rules.0 ∙ ap (λ (z : Tree). record { first = length z.rules; count = (rules_at t es i).count }) one in
    let row : read_node t es i a.count (record { first = length a.rules; count = (rules_at t es i).count }) (length l.nodes) ≡ c.read.result = sym (c.read.ensures ∙ (λ j. read_node t es i (began.number.0 j) (span j) (settled.first j))) in
    let step = began.taken ∙ ap (λ n. taken (node n ∷ []) (progress a)) c.place.ensures in
    let steps_taken = links_on k t es i (progress a) (progress b1) (progress b) step (progress l) None ruled.taken linked.taken ∙ ap (λ n. taken (steps n t es i) (progress a)) deep in
    record {
      taken = ap (λ (z : Tree). (progress z, None)) settled.moved ∙ steps_taken;
      pending = all.0;
      room = all.1;
      built = subst (λ n. Built n t es a d (i ∷ []) (c.read.result ∷ [])) deep (subst (λ r. Built (suc k) t es a d (i ∷ []) (r ∷ [])) row all.2);
    }
