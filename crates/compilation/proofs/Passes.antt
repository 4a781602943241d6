-- Loading in two passes, first all nodes and then the rules, comes to the same as step by step.
use Rattle.std.proofs.Common.{◌≡◌, ℕ, ◌+◌, Bool, true, false, cond, ltb, List, [], ◌∷◌, ◌++◌, length, Some, None, Option, sym, refl, ap, ◌∙◌, append_assoc}
use Rattle.compilation.specs.Fates.{Fate, Fated, all_fated, either, fated}
use Rattle.compilation.specs.Loading.{Outcome, loading}
use Rattle.compilation.specs.Widened.{widen}
use Rattle.compilation.specs.declared.fault.LoadFault.TheVariants.{ProgramsFull, RulesFull, TreeFull}
use Rattle.rule_host.specs.Meaning.{Meaning}
use Rattle.schema.specs.Laws.{rule_said}
use Rattle.schema_tree.specs.Steps.{Progress, Step, node, rule, taken}
use Rattle.schema_tree.specs.declared.fault.TreeFault.{TreeFault}
use Rattle.schema_tree.specs.declared.fault.TreeFault.TheVariants as tree_fault
use Rattle.schema_tree.specs.declared.node.RuleEntry.{RuleEntry}
use Rattle.std.proofs.lemmas.List.{append-nil, length_push}
use Rattle.std.specs.Option.{option_map, option_or}

-- the rules of the first pass, where n nodes and k rules were loaded before
new_rules : List Step → ℕ → ℕ → List RuleEntry
new_rules [] n k = []
new_rules (node p ∷ ss) n k = cond (ltb n 512) (new_rules ss (n + 1) k) []
new_rules (rule r ∷ ss) n k = cond (ltb k 256) (r ∷ new_rules ss n (k + 1)) []

-- and its fault
pass_fault : List Step → ℕ → ℕ → Option TreeFault
pass_fault [] n k = None
pass_fault (node p ∷ ss) n k = cond (ltb n 512) (pass_fault ss (n + 1) k) (Some (tree_fault.TreeFull p))
pass_fault (rule r ∷ ss) n k = cond (ltb k 256) (pass_fault ss n (k + 1)) (Some (tree_fault.RulesFull r.place))

taken-rules : (ss : List Step) (n : ℕ) (rs : List RuleEntry) → (taken ss (record { nodes = n; rules = rs })).0.rules ≡ rs ++ new_rules ss n (length rs)
unfolding taken new_rules
taken-rules [] n rs = sym (append-nil rs)
taken-rules (node p ∷ ss) n rs = by (ltb n 512) (taken-rules ss (n + 1) rs)
  where
    by : (b : Bool) → (taken ss (record { nodes = n + 1; rules = rs })).0.rules ≡ rs ++ new_rules ss (n + 1) (length rs) → (cond b (taken ss (record { nodes = n + 1; rules = rs })) (record { nodes = n; rules = rs }, Some (tree_fault.TreeFull p))).0.rules ≡ rs ++ cond b (new_rules ss (n + 1) (length rs)) []
    by true h = h
    by false h = sym (append-nil rs)
taken-rules (rule r ∷ ss) n rs = by (ltb (length rs) 256) (taken-rules ss n (rs ++ r ∷ []))
  where
    by : (b : Bool) → (taken ss (record { nodes = n; rules = rs ++ r ∷ [] })).0.rules ≡ (rs ++ r ∷ []) ++ new_rules ss n (length (rs ++ r ∷ [])) → (cond b (taken ss (record { nodes = n; rules = rs ++ r ∷ [] })) (record { nodes = n; rules = rs }, Some (tree_fault.RulesFull r.place))).0.rules ≡ rs ++ cond b (r ∷ new_rules ss n (length rs + 1)) []
    by true h = h ∙ (append_assoc rs (r ∷ []) (new_rules ss n (length (rs ++ r ∷ []))) ∙ ap (λ k. rs ++ (r ∷ new_rules ss n k)) (length_push rs r))
    by false h = sym (append-nil rs)

taken_fault : (ss : List Step) (n : ℕ) (rs : List RuleEntry) → (taken ss (record { nodes = n; rules = rs })).1 ≡ pass_fault ss n (length rs)
unfolding taken pass_fault
taken_fault [] n rs = refl
taken_fault (node p ∷ ss) n rs = by (ltb n 512) (taken_fault ss (n + 1) rs)
  where
    by : (b : Bool) → (taken ss (record { nodes = n + 1; rules = rs })).1 ≡ pass_fault ss (n + 1) (length rs) → (cond b (taken ss (record { nodes = n + 1; rules = rs })) (record { nodes = n; rules = rs }, Some (tree_fault.TreeFull p))).1 ≡ cond b (pass_fault ss (n + 1) (length rs)) (Some (tree_fault.TreeFull p))
    by true h = h
    by false h = refl
taken_fault (rule r ∷ ss) n rs = by (ltb (length rs) 256) (taken_fault ss n (rs ++ r ∷ []))
  where
    by : (b : Bool) → (taken ss (record { nodes = n; rules = rs ++ r ∷ [] })).1 ≡ pass_fault ss n (length (rs ++ r ∷ [])) → (cond b (taken ss (record { nodes = n; rules = rs ++ r ∷ [] })) (record { nodes = n; rules = rs }, Some (tree_fault.RulesFull r.place))).1 ≡ cond b (pass_fault ss n (length rs + 1)) (Some (tree_fault.RulesFull r.place))
    by true h = h ∙ ap (pass_fault ss n) (length_push rs r)
    by false h = refl

-- the fates of the second pass with the fault of either
abbrev pub both : Fated → Option TreeFault → Outcome
both x f = record { fates = x.fates; accepted = x.accepted; fault = option_or (option_map ProgramsFull x.full) (option_map widen f) }

module _ (m : Meaning) (t : List ℕ) where
  passes : (ss : List Step) (n : ℕ) (known : List Fate) (acc : List (List ℕ)) → loading m t ss n known acc ≡ both (all_fated m t (new_rules ss n (length known)) known acc) (pass_fault ss n (length known))
  unfolding loading new_rules pass_fault all_fated
  passes [] n known acc = refl
  passes (node p ∷ ss) n known acc = by (ltb n 512) (passes ss (n + 1) known acc)
    where
      by : (b : Bool) → loading m t ss (n + 1) known acc ≡ both (all_fated m t (new_rules ss (n + 1) (length known)) known acc) (pass_fault ss (n + 1) (length known)) → cond b (loading m t ss (n + 1) known acc) (record { fates = known; accepted = acc; fault = Some (TreeFull p) }) ≡ both (all_fated m t (cond b (new_rules ss (n + 1) (length known)) []) known acc) (cond b (pass_fault ss (n + 1) (length known)) (Some (tree_fault.TreeFull p)))
      by true h = h
      by false h = refl
  passes (rule r ∷ ss) n known acc = by (ltb (length known) 256) (inner (fated m acc (rule_said t r.rule)).fate (λ f. passes ss n (known ++ f ∷ []) (fated m acc (rule_said t r.rule)).accepted ∙ ap (λ k. both (all_fated m t (new_rules ss n k) (known ++ f ∷ []) (fated m acc (rule_said t r.rule)).accepted) (pass_fault ss n k)) (length_push known f)))
    where
      one : Option Fate → Outcome
      one o = either o (λ f. loading m t ss n (known ++ f ∷ []) (fated m acc (rule_said t r.rule)).accepted) (record { fates = known; accepted = (fated m acc (rule_said t r.rule)).accepted; fault = Some (ProgramsFull r.place) })

      two : Option Fate → Fated
      two o = either o (λ f. all_fated m t (new_rules ss n (length known + 1)) (known ++ f ∷ []) (fated m acc (rule_said t r.rule)).accepted) (record { fates = known; full = Some r.place; accepted = (fated m acc (rule_said t r.rule)).accepted })

      inner : (o : Option Fate) → ((f : Fate) → loading m t ss n (known ++ f ∷ []) (fated m acc (rule_said t r.rule)).accepted ≡ both (all_fated m t (new_rules ss n (length known + 1)) (known ++ f ∷ []) (fated m acc (rule_said t r.rule)).accepted) (pass_fault ss n (length known + 1))) → one o ≡ both (two o) (pass_fault ss n (length known + 1))
      inner (Some f) h = h f
      inner None h = refl

      by : (b : Bool) → one (fated m acc (rule_said t r.rule)).fate ≡ both (all_fated m t (r ∷ new_rules ss n (length known + 1)) known acc) (pass_fault ss n (length known + 1)) → cond b (one (fated m acc (rule_said t r.rule)).fate) (record { fates = known; accepted = acc; fault = Some (RulesFull r.place) }) ≡ both (all_fated m t (cond b (r ∷ new_rules ss n (length known + 1)) []) known acc) (cond b (pass_fault ss n (length known + 1)) (Some (tree_fault.RulesFull r.place)))
      by true h = h
      by false h = refl

  -- what the two passes leave is what loading step by step does
  pub two_passes : (ss : List Step) (p : Progress) (f : Option TreeFault) (acc : List (List ℕ)) → (p, f) ≡ taken ss (record { nodes = 0; rules = [] }) → both (all_fated m t p.rules [] acc) f ≡ loading m t ss 0 [] acc
  two_passes ss p f acc h =
      let rs : p.rules ≡ new_rules ss 0 0 = ap (λ (x : Progress × Option TreeFault). x.0.rules) h ∙ taken-rules ss 0 [] in
      let g : f ≡ pass_fault ss 0 0 = ap (λ (x : Progress × Option TreeFault). x.1) h ∙ taken_fault ss 0 [] in
      (λ i. both (all_fated m t (rs i) [] acc) (g i)) ∙ sym (passes ss 0 [] acc)
