-- A node that was loaded stands for its schema.
use Rattle.std.proofs.Common.{◌≡◌, ℕ, suc, ◌+◌, ◌≤◌, List, [], ◌∷◌, ◌++◌, map as each, length, take, drop, codes, sym, refl, ap, ◌∙◌, subst, append_assoc, arith}
use Rattle.json_values.specs.Value.{Value, null}
use Rattle.json_values.specs.declared.table.Entry.{Entry}
use Rattle.json_values.specs.declared.table.Span.{Span}
use Rattle.schema.proofs.Means.{parts_mean}
use Rattle.schema.specs.Entries.{linked_at, numbers_in, rules_at, targets_at, value_in}
use Rattle.schema.specs.Laws.{rule_said}
use Rattle.schema.specs.Parts.{linked, linked_by}
use Rattle.schema.specs.Rules.{rules_of}
use Rattle.schema.specs.declared.group.Group.{Group}
use Rattle.schema.specs.declared.group.Group.TheVariants.{Properties, Items, Additional, AllOf, OneOf, AnyOf}
use Rattle.schema_tree.proofs.Growing.{Grown, each_implies, each_length, stands_stays}
use Rattle.schema_tree.specs.Builds.{Built, HasRoom, Waits, tables}
use Rattle.schema_tree.specs.Loads.{Loaded}
use Rattle.schema_tree.specs.Nodes.{read_node, read_targets, target, unread_node}
use Rattle.schema_tree.specs.Stands.{Describes, EachStands, Stands, Tables, size, total}
use Rattle.schema_tree.specs.Steps.{rule_entry}
use Rattle.schema_tree.specs.Tree.{Tree}
use Rattle.schema_tree.proofs.Lists.{nth_push}
use Rattle.schema_tree.specs.declared.node.Node.{Node}
use Rattle.schema_tree.specs.declared.node.RuleEntry.{RuleEntry}
use Rattle.std.proofs.lemmas.List.{append-nil, drop_at, length-append, length-map, length_push, take_all, take_at}
use Rattle.std.proofs.lemmas.List.FromFn.{length-range_with_len}
use Rattle.std.proofs.lemmas.Simd.{map-map}
use Rattle.std.specs.List.{slice_get}

-- a part behind others
part_behind : {X : Type 0} (xs ys zs : List X) (n : ℕ) → n ≡ length ys → take n (drop (length xs) ((xs ++ ys) ++ zs)) ≡ ys
part_behind xs ys zs n h =
    ap (λ m. take m (drop (length xs) ((xs ++ ys) ++ zs))) h
    ∙ (ap (λ ws. take (length ys) (drop (length xs) ws)) (append_assoc xs ys zs)
    ∙ (ap (take (length ys)) (drop_at xs (ys ++ zs) (length xs) refl) ∙ take_at ys zs (length ys) refl))

module _ (t : List ℕ) (es : List Entry) (i : ℕ) where
  counts_are : (g : Group) → (targets_at t es g i).count ≡ length (linked_by g (value_in t es i))
  counts_are g =
      let sp = targets_at t es g i in
      sym (length-range_with_len sp.first sp.count) ∙ (sym (length-map (numbers_in sp) (value_in t es)) ∙ ap length ((parts_mean t es i).links g))

  targets_are : (g : Group) → target (read_targets t es i) g ≡ targets_at t es g i
  targets_are Properties = refl
  targets_are Items = refl
  targets_are Additional = refl
  targets_are AllOf = refl
  targets_are OneOf = refl
  targets_are AnyOf = refl

  entries : List RuleEntry
  entries = each (rule_entry t es) (numbers_in (rules_at t es i))

  entries_said : each (λ (r : RuleEntry). rule_said t r.rule) entries ≡ rules_of (value_in t es i)
  unfolding entries
  entries_said = map-map (λ (r : RuleEntry). rule_said t r.rule) (rule_entry t es) (numbers_in (rules_at t es i)) ∙ (parts_mean t es i).rules

  entries_length : (rules_at t es i).count ≡ length entries
  unfolding entries
  entries_length = sym (length-map (numbers_in (rules_at t es i)) (rule_entry t es) ∙ length-range_with_len (rules_at t es i).first (rules_at t es i).count)

  -- a node describes its schema in tables that hold its rules, and have room for what it links to
  describes : (number links : ℕ) (before more : List RuleEntry) (tabs : Tables) → tabs.rules ≡ (before ++ entries) ++ more → links + length (linked (value_in t es i)) ≤ length tabs.nodes → Describes t es tabs (read_node t es i number (record { first = length before; count = (rules_at t es i).count }) links) (value_in t es i)
  describes number links before more tabs rs ls =
      let m = parts_mean t es i in
      record {
        parts = record {
          maps = m.maps;
          nullable = m.flags (codes "nullable");
          preserves = m.flags (codes "x-kubernetes-preserve-unknown-fields");
          embeds = m.flags (codes "x-kubernetes-embedded-resource");
          format = m.formats;
          default = m.parts (codes "default");
          names = m.names;
          counts = λ g. ap (λ (sp : Span). sp.count) (targets_are g) ∙ counts_are g;
          rules = ap (λ (z : List RuleEntry). each (λ (r : RuleEntry). rule_said t r.rule) (take (rules_at t es i).count (drop (length before) z))) rs ∙ (ap (each (λ (r : RuleEntry). rule_said t r.rule)) (part_behind before entries more (rules_at t es i).count entries_length) ∙ entries_said);
          rules_in = omega (arith, ap length rs, length-append (before ++ entries) more, length-append before entries, entries_length);
          links_in = ls;
        };
        links = λ g. ap (λ sp. each (value_in t es) (numbers_in sp)) (targets_are g) ∙ m.links g;
      }

-- a schema in which nothing is read
pub unread_built : (t : List ℕ) (es : List Entry) (i : ℕ) (a b : Tree) → b ≡ record a { count = a.count + 1 } → Built 0 t es a b (i ∷ []) (unread_node i a.count ∷ [])
unfolding Stands size
unread_built t es i a b is = subst (λ z. Built 0 t es a z (i ∷ []) (unread_node i a.count ∷ [])) (sym is) (record {
  stand = (
    (
      refl,
      refl,
      record {
        parts = record {
          maps = refl;
          nullable = refl;
          preserves = refl;
          embeds = refl;
          format = refl;
          default = refl;
          names = refl;
          counts = none;
          rules = refl;
          rules_in = omega arith;
          links_in = omega arith;
        };
        links = no_links;
      },
    ),
    tt,
  );
  more_nodes = [];
  nodes = sym (append-nil a.nodes);
  more_rules = [];
  rules = sym (append-nil a.rules);
  counts = omega arith;
  room = omega arith;
})
  where
    no_links : (g : Group) → each (value_in t es) (numbers_in (target (unread_node i a.count).targets g)) ≡ linked_by g null
    no_links Properties = refl
    no_links Items = refl
    no_links Additional = refl
    no_links AllOf = refl
    no_links OneOf = refl
    no_links AnyOf = refl

    none : (g : Group) → (target (unread_node i a.count).targets g).count ≡ length (linked_by g null)
    none Properties = refl
    none Items = refl
    none Additional = refl
    none AllOf = refl
    none OneOf = refl
    none AnyOf = refl

-- a schema that begins at a, has its rules at b, what it links to at c, and is done at d
module _ (k : ℕ) (t : List ℕ) (es : List Entry) (i : ℕ) (a b c d : Tree) where
  pub node_built : HasRoom b → b ≡ record a { count = a.count + 1; rules = a.rules ++ each (rule_entry t es) (numbers_in (rules_at t es i)) } → (w : Waits k t es b c (linked_at t es i)) → d ≡ record c { nodes = c.nodes ++ drop (length b.pending) c.pending; pending = take (length b.pending) c.pending } → (d.pending ≡ a.pending) × HasRoom d × Built (suc k) t es a d (i ∷ []) (read_node t es i a.count (record { first = length a.rules; count = (rules_at t es i).count }) (length c.nodes) ∷ [])
  unfolding Stands size entries
  node_built has begun w done =
      let r = w.built in
      let rows : List Node = w.rows in
      let s : Value = value_in t es i in
      let m = parts_mean t es i in
      let ws : List Node = b.pending in
      let bn : b.nodes ≡ a.nodes = ap (λ (z : Tree). z.nodes) begun in
      let bc : b.count ≡ a.count + 1 = ap (λ (z : Tree). z.count) begun in
      let br : b.rules ≡ a.rules ++ each (rule_entry t es) (numbers_in (rules_at t es i)) = ap (λ (z : Tree). z.rules) begun in
      let dr : d.rules ≡ c.rules = ap (λ (z : Tree). z.rules) done in
      let dc : d.count ≡ c.count = ap (λ (z : Tree). z.count) done in
      let tail : drop (length ws) c.pending ≡ rows = ap (drop (length ws)) w.waits ∙ drop_at ws rows (length ws) refl in
      let front : take (length ws) c.pending ≡ ws = ap (take (length ws)) w.waits ∙ take_at ws rows (length ws) refl in
      let nodes : d.nodes ≡ c.nodes ++ rows = ap (λ (z : Tree). z.nodes) done ∙ ap (λ (z : List Node). c.nodes ++ z) tail in
      let grown : Grown (tables c) (tables d) = record { more_nodes = rows; nodes = nodes; more_rules = []; rules = dr ∙ sym (append-nil c.rules) } in
      let stand : EachStands (Stands k t es (tables d)) (size k) b.count rows (each (value_in t es) (linked_at t es i)) = each_implies (Stands k t es (tables c)) (Stands k t es (tables d)) (size k) (λ n row v. stands_stays t es (tables c) (tables d) grown k n row v) b.count rows (each (value_in t es) (linked_at t es i)) r.stand in
      let stand' : EachStands (Stands k t es (tables d)) (size k) (a.count + 1) rows (linked s) = subst (λ (z : List Value). EachStands (Stands k t es (tables d)) (size k) (a.count + 1) rows z) m.all_links (subst (λ n. EachStands (Stands k t es (tables d)) (size k) n rows (each (value_in t es) (linked_at t es i))) bc stand) in
      let long : length rows ≡ length (linked s) = each_length (Stands k t es (tables d)) (size k) (a.count + 1) rows (linked s) stand' in
      let many : length (linked_at t es i) ≡ length (linked s) = sym (length-map (linked_at t es i) (value_in t es)) ∙ ap length m.all_links in
      let total-is : total (size k) (each (value_in t es) (linked_at t es i)) ≡ total (size k) (linked s) = ap (total (size k)) m.all_links in
      let dlen : length d.nodes ≡ length c.nodes + length rows = ap length nodes ∙ length-append c.nodes rows in
      let all-rules : d.rules ≡ (a.rules ++ each (rule_entry t es) (numbers_in (rules_at t es i))) ++ r.more_rules = dr ∙ (r.rules ∙ ap (λ (z : List RuleEntry). z ++ r.more_rules) br) in
      let here : take (length (linked s)) (drop (length c.nodes) d.nodes) ≡ rows = ap (λ (z : List Node). take (length (linked s)) (drop (length c.nodes) z)) nodes ∙ (ap (take (length (linked s))) (drop_at c.nodes rows (length c.nodes) refl) ∙ take_all (length (linked s)) rows (omega (arith, long))) in (
        ap (λ (z : Tree). z.pending) done ∙ (front ∙ ap (λ (z : Tree). z.pending) begun),
        omega (arith, has, dlen, long, many, r.room, dc, ap (λ (z : Tree). length z.pending) done, ap length front),
        record {
          stand = ((refl, refl, describes t es i a.count (length c.nodes) a.rules r.more_rules (tables d) all-rules (omega (arith, dlen, long)), subst (λ (z : List Node). EachStands (Stands k t es (tables d)) (size k) (a.count + 1) z (linked s)) (sym here) stand'), tt);
          more_nodes = r.more_nodes ++ rows;
          nodes = nodes ∙ (ap (λ (z : List Node). z ++ rows) (r.nodes ∙ ap (λ (z : List Node). z ++ r.more_nodes) bn) ∙ append_assoc a.nodes r.more_nodes rows);
          more_rules = each (rule_entry t es) (numbers_in (rules_at t es i)) ++ r.more_rules;
          rules = all-rules ∙ append_assoc a.rules (each (rule_entry t es) (numbers_in (rules_at t es i))) r.more_rules;
          counts = omega (arith, dc, r.counts, bc, total-is);
          room = omega (arith, dlen, long, many, r.room, bc, dc, ap length bn);
        },
      )

-- the root of a schema that was loaded from nothing
pub root_loaded : (t : List ℕ) (es : List Entry) (i : ℕ) (a b : Tree) (tabs : Tables) (row : Node) (at : ℕ) → a.nodes ≡ [] → a.count ≡ 0 → Built 65 t es a b (i ∷ []) (row ∷ []) → tabs.nodes ≡ b.nodes ++ row ∷ [] → tabs.rules ≡ b.rules → at ≡ length b.nodes → Loaded t es tabs at (value_in t es i)
root_loaded t es i a b tabs row at none zero-count o dn dr is =
    let grown : Grown (tables b) tabs = record { more_nodes = row ∷ []; nodes = dn; more_rules = []; rules = dr ∙ sym (append-nil b.rules) } in
    let long : length tabs.nodes ≡ length b.nodes + 1 = ap length dn ∙ length_push b.nodes row in
    record {
      root = row;
      found = ap (λ z. slice_get z at) dn ∙ (ap (slice_get (b.nodes ++ row ∷ [])) is ∙ nth_push b.nodes row);
      last = omega (arith, is, long);
      stands = stands_stays t es (tables b) tabs grown 65 0 row (value_in t es i) (subst (λ n. Stands 65 t es (tables b) n row (value_in t es i)) zero-count o.stand.0);
      many = omega (arith, long, o.room, o.counts, zero-count, ap length none);
    }
