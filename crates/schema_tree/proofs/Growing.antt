-- What stands in the tables stays as they grow.
use Rattle.std.proofs.Common.{◌≡◌, ℕ, zero, suc, ◌+◌, ◌≤◌, List, [], ◌∷◌, ◌++◌, map as each, length, take, drop, sym, refl, ap, ◌∙◌, subst, add-zero, add_assoc, arith}
use Rattle.json_values.specs.Value.{Value, null}
use Rattle.json_values.specs.declared.table.Entry.{Entry}
use Rattle.schema.specs.Laws.{rule_said}
use Rattle.schema.specs.Parts.{linked}
use Rattle.schema_tree.specs.Stands.{Describes, EachStands, HasParts, Stands, Tables, next_nodes, size, total}
use Rattle.schema_tree.specs.declared.node.Node.{Node}
use Rattle.schema_tree.specs.declared.node.RuleEntry.{RuleEntry}
use Rattle.schema_tree.proofs.Lists.{within_stays}
use Rattle.std.proofs.lemmas.List.{length-append}

pub each_implies : (P Q : ℕ → Node → Value → Type 0) (f : Value → ℕ) → ((n : ℕ) (r : Node) (v : Value) → P n r v → Q n r v) → (n : ℕ) (rs : List Node) (vs : List Value) → EachStands P f n rs vs → EachStands Q f n rs vs
each_implies P Q f g n [] [] h = tt
each_implies P Q f g n [] (v ∷ vs) h = h
each_implies P Q f g n (r ∷ rs) [] h = h
each_implies P Q f g n (r ∷ rs) (v ∷ vs) h = (g n r v h.0, each_implies P Q f g (n + f v) rs vs h.1)

pub each_join : (P : ℕ → Node → Value → Type 0) (f : Value → ℕ) (n : ℕ) (rs qs : List Node) (vs ws : List Value) → EachStands P f n rs vs → EachStands P f (n + total f vs) qs ws → EachStands P f n (rs ++ qs) (vs ++ ws)
each_join P f n [] qs [] ws h k = subst (λ m. EachStands P f m qs ws) (add-zero n) k
each_join P f n [] qs (v ∷ vs) ws h k = absurd h
each_join P f n (r ∷ rs) qs [] ws h k = absurd h
each_join P f n (r ∷ rs) qs (v ∷ vs) ws h k =
    (h.0, each_join P f (n + f v) rs qs vs ws h.1 (subst (λ m. EachStands P f m qs ws) (sym (add_assoc n (f v) (total f vs))) k))

pub each_length : (P : ℕ → Node → Value → Type 0) (f : Value → ℕ) (n : ℕ) (rs : List Node) (vs : List Value) → EachStands P f n rs vs → length rs ≡ length vs
each_length P f n [] [] h = refl
each_length P f n [] (v ∷ vs) h = absurd h
each_length P f n (r ∷ rs) [] h = absurd h
each_length P f n (r ∷ rs) (v ∷ vs) h = ap suc (each_length P f (n + f v) rs vs h.1)

pub total_append : (f : Value → ℕ) (vs ws : List Value) → total f (vs ++ ws) ≡ total f vs + total f ws
total_append f [] ws = omega arith
total_append f (v ∷ vs) ws = omega (arith, total_append f vs ws)

pub record Grown (a b : Tables) : Type 0 where
  pub more_nodes : List Node
  pub nodes : b.nodes ≡ a.nodes ++ more_nodes
  pub more_rules : List RuleEntry
  pub rules : b.rules ≡ a.rules ++ more_rules

module _ (t : List ℕ) (es : List Entry) (a b : Tables) (g : Grown a b) where
  pub parts_stay : (row : Node) (s : Value) → HasParts t es a row s → HasParts t es b row s
  parts_stay row s d = record {
    maps = d.maps;
    nullable = d.nullable;
    preserves = d.preserves;
    embeds = d.embeds;
    format = d.format;
    default = d.default;
    names = d.names;
    counts = d.counts;
    rules = ap (each (λ (r : RuleEntry). rule_said t r.rule)) (ap (λ (z : List RuleEntry). take row.rules.count (drop row.rules.first z)) g.rules ∙ within_stays a.rules g.more_rules row.rules.first row.rules.count d.rules_in) ∙ d.rules;
    rules_in = omega (arith, d.rules_in, ap length g.rules, length-append a.rules g.more_rules);
    links_in = omega (arith, d.links_in, ap length g.nodes, length-append a.nodes g.more_nodes);
  }

  pub describes_stays : (row : Node) (s : Value) → Describes t es a row s → Describes t es b row s
  describes_stays row s d = record { parts = parts_stay row s d.parts; links = d.links }

  pub nodes_stay : (row : Node) (n : ℕ) → row.links + n ≤ length a.nodes → next_nodes b row n ≡ next_nodes a row n
  nodes_stay row n h = ap (λ (z : List Node). take n (drop row.links z)) g.nodes ∙ within_stays a.nodes g.more_nodes row.links n h

  pub stands_stays : (k n : ℕ) (row : Node) (s : Value) → Stands k t es a n row s → Stands k t es b n row s
  unfolding Stands
  stands_stays zero n row s h = (h.0, h.1, describes_stays row null h.2)
  stands_stays (suc k) n row s h = (
    h.0,
    h.1,
    describes_stays row s h.2,
    each_implies (Stands k t es a) (Stands k t es b) (size k) (λ m r v. stands_stays k m r v) (n + 1) (next_nodes b row (length (linked s))) (linked s)
        (subst (λ (z : List Node). EachStands (Stands k t es a) (size k) (n + 1) z (linked s)) (sym (nodes_stay row (length (linked s)) h.2.parts.links_in)) h.3),
  )
