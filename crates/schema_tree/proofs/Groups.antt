-- The nodes of a group among all that a node links to.
use Rattle.std.proofs.Common.{◌≡◌, ℕ, ◌+◌, ◌<◌, ◌≤◌, List, [], ◌∷◌, ◌++◌, length, get_or, take, drop, sym, refl, ap, ◌∙◌, subst, ⊎_elim, arith}
use Rattle.std.proofs.lemmas.Bool.{cases_lt}
use Rattle.std.proofs.lemmas.List.Sums.{sum_by-cons}
use Rattle.json_values.specs.Value.{Value}
use Rattle.schema.specs.Parts.{linked, linked_by, order}
use Rattle.schema.specs.declared.group.Group.{Group}
use Rattle.schema.specs.declared.group.Group.TheVariants.{Properties, Items, Additional, AllOf, OneOf, AnyOf}
use Rattle.schema_tree.proofs.Lists.{take_within}
use Rattle.schema_tree.specs.Nodes.{group_nodes, links_before, place, target}
use Rattle.schema_tree.specs.Stands.{EachStands, GroupPartsStand, GroupsStand, PartsStand, Stands, Tables, next_nodes, size}
use Rattle.schema_tree.specs.declared.node.Node.{Node}
use Rattle.schema_tree.specs.declared.targets.Targets.{Targets}
use Rattle.std.proofs.lemmas.Grind.{flat_map-append}
use Rattle.std.proofs.lemmas.List.Concat.{length-flat_map}
use Rattle.std.proofs.lemmas.List.{drop-drop, length-append, length-drop}
use Rattle.std.specs.List.{flat_map, sum_by}

sum_same : {X : Type 0} (f g : X → ℕ) → ((x : X) → f x ≡ g x) → (xs : List X) → sum_by f xs ≡ sum_by g xs
sum_same f g h [] = refl
sum_same f g h (x ∷ xs) = sum_by-cons f x xs ∙ (ap (λ n. n + sum_by f xs) (h x) ∙ (ap (λ n. g x + n) (sum_same f g h xs) ∙ sym (sum_by-cons g x xs)))

-- a group stands in the order, behind those before it
split : (g : Group) → order ≡ take (place g) order ++ g ∷ drop (place g + 1) order
split Properties = refl
split Items = refl
split Additional = refl
split AllOf = refl
split OneOf = refl
split AnyOf = refl

nth : (g : Group) → get_or order (place g) Properties ≡ g
nth Properties = refl
nth Items = refl
nth Additional = refl
nth AllOf = refl
nth OneOf = refl
nth AnyOf = refl

-- a group that comes no later than g, and is another, comes before it
pub place_before : (g : Group) (i : ℕ) → i ≤ place g → (get_or order i Properties ≡ g → ⊥) → i + 1 ≤ place g
place_before g i le other = ⊎_elim (λ (lt : i < place g). omega arith) (λ (ge : place g ≤ i). absurd (other (let e : i ≡ place g = omega arith in ap (λ n. get_or order n Properties) e ∙ nth g))) (cases_lt i (place g))

module _ (P : ℕ → Node → Value → Type 0) (f : Value → ℕ) where
  front : (n : ℕ) (rs : List Node) (us bs : List Value) → EachStands P f n rs (us ++ bs) → EachStands P f n (take (length us) rs) us
  front n rs [] bs h = tt
  front n [] (u ∷ us) bs h = h
  front n (r ∷ rs) (u ∷ us) bs h = (h.0, front (n + f u) rs us bs h.1)

  back : (n : ℕ) (rs : List Node) (us bs : List Value) → EachStands P f n rs (us ++ bs) → (m : ℕ) × EachStands P f m (drop (length us) rs) bs
  back n rs [] bs h = (n, h)
  back n [] (u ∷ us) bs h = absurd h
  back n (r ∷ rs) (u ∷ us) bs h = back (n + f u) rs us bs h.1

  -- where a node has as many links of each group as the schema s, and they stand in the table, so do the nodes of a group
  group_stands : (tables : Tables) (n : ℕ) (row : Node) (s : Value) → ((g : Group) → (target row.targets g).count ≡ length (linked_by g s)) → row.links + length (linked s) ≤ length tables.nodes → EachStands P f n (next_nodes tables row (length (linked s))) (linked s) → (g : Group) → (m : ℕ) × EachStands P f m (group_nodes tables.nodes row g) (linked_by g s)
  group_stands tables n row s counts links_in stand g =
      let x : Targets = row.targets in
      let us : List Value = flat_map (λ i. linked_by i s) (take (place g) order) in
      let vs : List Value = linked_by g s in
      let ws : List Value = flat_map (λ i. linked_by i s) (drop (place g + 1) order) in
      let all : linked s ≡ us ++ (vs ++ ws) = ap (flat_map (λ i. linked_by i s)) (split g) ∙ flat_map-append (λ i. linked_by i s) (take (place g) order) (g ∷ drop (place g + 1) order) in
      let long : length us ≡ links_before x g = length-flat_map (λ i. linked_by i s) (take (place g) order) ∙ sum_same (λ i. length (linked_by i s)) (λ i. (target x i).count) (λ i. sym (counts i)) (take (place g) order) in
      let rows : List Node = next_nodes tables row (length (linked s)) in
      let rest = back n rows us (vs ++ ws) (subst (EachStands P f n rows) all stand) in
      let these = front rest.0 (drop (length us) rows) vs ws rest.1 in
      let fits : length us + length vs ≤ length (linked s) = omega (arith, ap length all, length-append us (vs ++ ws), length-append vs ws) in
      let inside : length (linked s) ≤ length (drop row.links tables.nodes) = omega (arith, links_in, length-drop row.links tables.nodes) in
      let same : take (length vs) (drop (length us) rows) ≡ group_nodes tables.nodes row g =
      take_within (drop row.links tables.nodes) (length (linked s)) (length us) (length vs) fits inside
      ∙ (ap (take (length vs)) (drop-drop (length us) row.links tables.nodes)
      ∙ (ap (λ m. take (length vs) (drop (row.links + m) tables.nodes)) long
      ∙ ap (λ m. take m (drop (row.links + links_before x g) tables.nodes)) (sym (counts g)))) in
      (rest.0, subst (λ (z : List Node). EachStands P f rest.0 z vs) same these)

pub groups_stand : GroupsStand
unfolding Stands
groups_stand k t es tables n row s h g = group_stands (Stands k t es tables) (size k) tables (n + 1) row s h.2.parts.counts h.2.parts.links_in h.3 g

pub group_parts_stand : GroupPartsStand
unfolding PartsStand
group_parts_stand k t es tables n row s h g = group_stands (PartsStand k t es tables) (size k) tables (n + 1) row s h.1.counts h.1.links_in h.2 g
