-- Loading one schema after another.
use Rattle.std.proofs.Common.{◌≡◌, ℕ, ◌+◌, List, [], ◌∷◌, ◌++◌, map as each, sym, ap, ◌∙◌, subst, append_assoc, arith}
use Rattle.json_values.specs.Value.{Value}
use Rattle.json_values.specs.declared.table.Entry.{Entry}
use Rattle.schema.specs.Entries.{value_in}
use Rattle.schema_tree.specs.Builds.{Built, Waits, tables}
use Rattle.schema_tree.specs.Stands.{EachStands, Stands, size, total}
use Rattle.schema_tree.specs.Tree.{Tree}
use Rattle.schema_tree.specs.declared.node.Node.{Node}
use Rattle.schema_tree.specs.declared.node.RuleEntry.{RuleEntry}
use Rattle.schema_tree.proofs.Growing.{Grown, each_implies, each_join, stands_stays, total_append}
use Rattle.std.proofs.lemmas.List.{append-nil, length-append, map-append}

module _ (k : ℕ) (t : List ℕ) (es : List Entry) where
  -- nothing was loaded yet
  pub built_none : (b : Tree) → Built k t es b b [] []
  built_none b = record {
    stand = tt;
    more_nodes = [];
    nodes = sym (append-nil b.nodes);
    more_rules = [];
    rules = sym (append-nil b.rules);
    counts = omega arith;
    room = omega arith;
  }

  -- one stretch of schemas, and another
  pub built_join : (a b c : Tree) (ns ms : List ℕ) (rs qs : List Node) → Built k t es a b ns rs → Built k t es b c ms qs → Built k t es a c (ns ++ ms) (rs ++ qs)
  built_join a b c ns ms rs qs r q =
      let vs : List Value = each (value_in t es) ns in
      let ws : List Value = each (value_in t es) ms in
      let split : each (value_in t es) (ns ++ ms) ≡ vs ++ ws = map-append (value_in t es) ns ms in
      let grown : Grown (tables b) (tables c) = record { more_nodes = q.more_nodes; nodes = q.nodes; more_rules = q.more_rules; rules = q.rules } in
      let first : EachStands (Stands k t es (tables c)) (size k) a.count rs vs = each_implies (Stands k t es (tables b)) (Stands k t es (tables c)) (size k) (λ n row v. stands_stays t es (tables b) (tables c) grown k n row v) a.count rs vs r.stand in
      let second : EachStands (Stands k t es (tables c)) (size k) (a.count + total (size k) vs) qs ws = subst (λ n. EachStands (Stands k t es (tables c)) (size k) n qs ws) r.counts q.stand in
      record {
        stand = subst (λ (z : List Value). EachStands (Stands k t es (tables c)) (size k) a.count (rs ++ qs) z) (sym split) (each_join (Stands k t es (tables c)) (size k) a.count rs qs vs ws first second);
        more_nodes = r.more_nodes ++ q.more_nodes;
        nodes = q.nodes ∙ (ap (λ (z : List Node). z ++ q.more_nodes) r.nodes ∙ append_assoc a.nodes r.more_nodes q.more_nodes);
        more_rules = r.more_rules ++ q.more_rules;
        rules = q.rules ∙ (ap (λ (z : List RuleEntry). z ++ q.more_rules) r.rules ∙ append_assoc a.rules r.more_rules q.more_rules);
        counts = omega (arith, r.counts, q.counts, ap (total (size k)) split, total_append (size k) vs ws);
        room = omega (arith, r.room, q.room, length-append ns ms);
      }

  pub waits_none : (b : Tree) → Waits k t es b b []
  waits_none b = record { rows = []; waits = sym (append-nil b.pending); built = built_none b }

  pub waits_join : (a b c : Tree) (ns ms : List ℕ) → Waits k t es a b ns → Waits k t es b c ms → Waits k t es a c (ns ++ ms)
  waits_join a b c ns ms r q = record {
    rows = r.rows ++ q.rows;
    waits = q.waits ∙ (ap (λ (z : List Node). z ++ q.rows) r.waits ∙ append_assoc a.pending r.rows q.rows);
    built = built_join a b c ns ms r.rows q.rows r.built q.built;
  }

  -- a schema more, whose node waits now
  pub waits_more : (a b c d : Tree) (ns : List ℕ) (i : ℕ) (row : Node) → Waits k t es a b ns → c.pending ≡ b.pending → Built k t es b c (i ∷ []) (row ∷ []) → d ≡ record c { pending = c.pending ++ row ∷ [] } → Waits k t es a d (ns ++ i ∷ [])
  waits_more a b c d ns i row r same o is =
      let j = built_join a b c ns (i ∷ []) r.rows (row ∷ []) r.built o in
      subst (λ z. Waits k t es a z (ns ++ i ∷ [])) (sym is) (record {
        rows = r.rows ++ row ∷ [];
        waits = ap (λ (z : List Node). z ++ row ∷ []) (same ∙ r.waits) ∙ append_assoc a.pending r.rows (row ∷ []);
        built = record { stand = j.stand; more_nodes = j.more_nodes; nodes = j.nodes; more_rules = j.more_rules; rules = j.rules; counts = j.counts; room = j.room };
      })
