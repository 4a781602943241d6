-- Steps one after another.
use Rattle.std.proofs.Common.{◌≡◌, ℕ, zero, suc, Bool, true, false, cond, ltb, List, [], ◌∷◌, ◌++◌, length, Some, None, Option, sym, refl, ap, ◌∙◌}
use Rattle.json_values.specs.declared.table.Entry.{Entry}
use Rattle.schema.specs.Entries.{linked_at, numbers_in, place_in, rules_at}
use Rattle.schema_tree.specs.Steps.{Progress, Step, node, rule, rule_steps, steps, taken, with_node, with_rule}
use Rattle.schema_tree.specs.declared.fault.TreeFault.{TreeFault}
use Rattle.schema_tree.specs.declared.fault.TreeFault.TheVariants.{TreeFull, RulesFull}
use Rattle.std.proofs.lemmas.Grind.{flat_map-append}
use Rattle.std.proofs.lemmas.List.{append-nil}
use Rattle.std.specs.List.{flat_map}

abbrev go_by : Option TreeFault → Progress → List Step → Progress × Option TreeFault
go_by None p ys = taken ys p
go_by (Some f) p ys = (p, Some f)

abbrev go_on : Progress × Option TreeFault → List Step → Progress × Option TreeFault
go_on x ys = go_by x.1 x.0 ys

choose : (b : Bool) (x y : Progress × Option TreeFault) (ys : List Step) → cond b (go_on x ys) (go_on y ys) ≡ go_on (cond b x y) ys
choose true x y ys = refl
choose false x y ys = refl

pub taken_append : (xs ys : List Step) (p : Progress) → taken (xs ++ ys) p ≡ go_on (taken xs p) ys
unfolding taken
taken_append [] ys p = refl
taken_append (node place ∷ xs) ys p = ap (λ z. cond (ltb p.nodes 512) z (p, Some (TreeFull place))) (taken_append xs ys (with_node p)) ∙ choose (ltb p.nodes 512) (taken xs (with_node p)) (p, Some (TreeFull place)) ys
taken_append (rule r ∷ xs) ys p = ap (λ z. cond (ltb (length p.rules) 256) z (p, Some (RulesFull r.place))) (taken_append xs ys (with_rule p r)) ∙ choose (ltb (length p.rules) 256) (taken xs (with_rule p r)) (p, Some (RulesFull r.place)) ys

module _ (xs ys : List Step) (p q : Progress) where
  -- the first steps were taken, and then the others, as far as there was room
  pub taken_on : (r : Progress) (f : Option TreeFault) → (q, None) ≡ taken xs p → (r, f) ≡ taken ys q → (r, f) ≡ taken (xs ++ ys) p
  taken_on r f h g = g ∙ (ap (λ x. go_on x ys) h ∙ sym (taken_append xs ys p))

  -- there was no room among the first steps
  pub taken_out : (f : TreeFault) → (q, Some f) ≡ taken xs p → (q, Some f) ≡ taken (xs ++ ys) p
  taken_out f h = ap (λ x. go_on x ys) h ∙ sym (taken_append xs ys p)

pub none_taken : (p : Progress) → (p, None) ≡ taken [] p
unfolding taken
none_taken p = refl

-- the steps of x behind those of others
module _ {X : Type 0} (f : X → List Step) (xs : List X) (x : X) (p q r : Progress) (h : (q, None) ≡ taken (flat_map f xs) p) where
  pub each_on : (e : Option TreeFault) → (r, e) ≡ taken (f x) q → (r, e) ≡ taken (flat_map f (xs ++ x ∷ [])) p
  each_on e g =
      let one : flat_map f (x ∷ []) ≡ f x = append-nil (f x) in
      taken_on (flat_map f xs) (f x) p q r e h g ∙ ap (λ ss. taken ss p) (sym (flat_map-append f xs (x ∷ []) ∙ ap (λ ss. flat_map f xs ++ ss) one))

  -- there was no room among those of x, and others would follow
  pub each_out : (ys all : List X) (e : TreeFault) → all ≡ xs ++ x ∷ ys → (r, Some e) ≡ taken (f x) q → (r, Some e) ≡ taken (flat_map f all) p
  each_out ys all e is g =
      taken_on (flat_map f xs) (flat_map f (x ∷ ys)) p q r (Some e) h (taken_out (f x) (flat_map f ys) q r e g)
      ∙ ap (λ ss. taken ss p) (sym (ap (flat_map f) is ∙ flat_map-append f xs (x ∷ ys)))

-- ---- a schema

-- the steps behind a node
abbrev pub behind : ℕ → List ℕ → List Entry → ℕ → List Step
behind zero t es i = []
behind (suc k) t es i = rule_steps t es (numbers_in (rules_at t es i)) ++ flat_map (steps k t es) (linked_at t es i)

pub steps_are : (k : ℕ) (t : List ℕ) (es : List Entry) (i : ℕ) → (node (place_in es i) ∷ []) ++ behind k t es i ≡ steps k t es i
unfolding steps
steps_are zero t es i = refl
steps_are (suc k) t es i = refl

module _ (k : ℕ) (t : List ℕ) (es : List Entry) (i : ℕ) (p q r : Progress) (begun : (q, None) ≡ taken (node (place_in es i) ∷ []) p) where
  -- there was no room for a rule
  pub rules_out : (f : TreeFault) → (r, Some f) ≡ taken (rule_steps t es (numbers_in (rules_at t es i))) q → (r, Some f) ≡ taken (steps (suc k) t es i) p
  rules_out f h =
      taken_on (node (place_in es i) ∷ []) (behind (suc k) t es i) p q r (Some f) begun (taken_out (rule_steps t es (numbers_in (rules_at t es i))) (flat_map (steps k t es) (linked_at t es i)) q r f h)
      ∙ ap (λ ss. taken ss p) (steps_are (suc k) t es i)

  -- the rules were taken, and then what links lead to, as far as there was room
  pub links_on : (s : Progress) (f : Option TreeFault) → (r, None) ≡ taken (rule_steps t es (numbers_in (rules_at t es i))) q → (s, f) ≡ taken (flat_map (steps k t es) (linked_at t es i)) r → (s, f) ≡ taken (steps (suc k) t es i) p
  links_on s f h g =
      taken_on (node (place_in es i) ∷ []) (behind (suc k) t es i) p q s f begun (taken_on (rule_steps t es (numbers_in (rules_at t es i))) (flat_map (steps k t es) (linked_at t es i)) q r s f h g)
      ∙ ap (λ ss. taken ss p) (steps_are (suc k) t es i)
