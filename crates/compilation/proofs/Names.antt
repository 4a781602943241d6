-- The programs of compiled rules stand for their expressions, and go on to as the host's list grows.
use Rattle.std.proofs.Common.{◌≡◌, ℕ, ◌<◌, ◌≤◌, Bool, List, [], ◌∷◌, ◌++◌, map as each, length, Some, None, Ok, Err, codes, Option, sym, refl, ap, ◌∙◌, subst, ⊎_elim, append_assoc, arith}
use Rattle.compilation.specs.Fates.{AllNamed, Fate, Fated, Named, NamedMessage, StepTaken, after_message, after_rule, all_fated, either, fated, ill_message, ill_rule, invalid, ready, with_message}
use Rattle.compilation.proofs.Compiles.{stands_for}
use Rattle.rule_host.proofs.Compilings.{compiling_laws}
use Rattle.rule_host.specs.Compiling.{Compilation, compiled}
use Rattle.rule_host.specs.declared.answer.CompileError.TheVariants.{Full, Ill}
use Rattle.rule_host.specs.Meaning.{Meaning}
use Rattle.schema.specs.Laws.{rule_said}
use Rattle.schema.specs.Rules.{WrittenRule}
use Rattle.schema_tree.specs.declared.node.RuleEntry.{RuleEntry}
use Rattle.std.proofs.lemmas.List.{append-nil}
use Rattle.std.proofs.lemmas.Option.{slice_get-get_or, slice_get_past}
use Rattle.std.proofs.lemmas.Bool.{cases_lt}
use Rattle.std.specs.List.{slice_get}

-- what stands in a list stands in the other
abbrev pub Lasts : List (List ℕ) → List (List ℕ) → Type 0
Lasts a b = (n : ℕ) (e : List ℕ) → slice_get a n ≡ Some e → slice_get b n ≡ Some e

pub lasts_self : (a : List (List ℕ)) → Lasts a a
lasts_self a n e h = h

lasts-then : (a b c : List (List ℕ)) → Lasts a b → Lasts b c → Lasts a c
lasts-then a b c p q n e h = q n e (p n e h)

lasts-compiled : (m : Meaning) (acc : List (List ℕ)) (e : List ℕ) → Lasts acc (compiled m acc e).1
lasts-compiled m acc e n x h = ⊎_elim inside outside (cases_lt n (length acc))
  where
    inside : n < length acc → slice_get (compiled m acc e).1 n ≡ Some x
    inside lt = let l = compiling_laws.lasts m acc e n lt in slice_get-get_or (compiled m acc e).1 n [] l.0 ∙ (ap Some l.1 ∙ (sym (slice_get-get_or acc n [] lt) ∙ h))

    outside : length acc ≤ n → slice_get (compiled m acc e).1 n ≡ Some x
    outside le = let p = slice_get_past acc n le in let z : ◌≡◌ {A = ℕ} 0 1 = cc in let y : ⊥ = omega arith in elim y [ ]

message_lasts : (a b : List (List ℕ)) → Lasts a b → (e : Option (List ℕ)) (p : Option ℕ) → NamedMessage a e p → NamedMessage b e p
message_lasts a b l None None h = tt
message_lasts a b l (Some e) (Some p) h = l p e h
message_lasts a b l None (Some p) h = h
message_lasts a b l (Some e) None h = h

pub named-lasts : (a b : List (List ℕ)) → Lasts a b → (w : Option WrittenRule) (f : Fate) → Named a w f → Named b w f
named-lasts a b l w invalid h = h
named-lasts a b l w (ill_rule t) h = tt
named-lasts a b l w (ill_message t) h = tt
named-lasts a b l None (ready n c p) h = h
named-lasts a b l (Some w) (ready n c p) h = (l n w.rule h.0, message_lasts a b l w.message_expression p h.1)

pub all_last : (a b : List (List ℕ)) → Lasts a b → (ws : List (Option WrittenRule)) (fs : List Fate) → AllNamed a ws fs → AllNamed b ws fs
all_last a b l [] [] h = tt
all_last a b l [] (f ∷ fs) h = h
all_last a b l (w ∷ ws) [] h = h
all_last a b l (w ∷ ws) (f ∷ fs) h = (named-lasts a b l w f h.0, all_last a b l ws fs h.1)

all_push : (a : List (List ℕ)) (ws : List (Option WrittenRule)) (fs : List Fate) (w : Option WrittenRule) (f : Fate) → AllNamed a ws fs → Named a w f → AllNamed a (ws ++ w ∷ []) (fs ++ f ∷ [])
all_push a [] [] w f h k = (k, tt)
all_push a [] (g ∷ fs) w f h k = absurd h
all_push a (v ∷ ws) [] w f h k = absurd h
all_push a (v ∷ ws) (g ∷ fs) w f h k = (h.0, all_push a ws fs w f h.1 k)

-- ---- one rule

-- a step leaves what was there, and names its programs
pub record StepsWell (acc : List (List ℕ)) (w : Option WrittenRule) (x : StepTaken) : Type 0 where
  pub lasts : Lasts acc x.accepted
  pub names : (f : Fate) → x.fate ≡ Some f → Named x.accepted w f

some_same : {A : Type 0} (x y : A) → Some x ≡ Some y → x ≡ y
some_same x y h = cc

module _ (m : Meaning) (w : WrittenRule) where
  message_well : (acc : List (List ℕ)) (n : ℕ) (b : Bool) → slice_get acc n ≡ Some w.rule → (e : Option (List ℕ)) → w.message_expression ≡ e → StepsWell acc (Some w) (with_message m n b e acc)
  message_well acc n b h None q = record { lasts = lasts_self acc; names = λ f k. subst (Named acc (Some w)) (some_same (ready n b None) f k) (h, subst (λ e. NamedMessage acc e None) (sym q) tt) }
  message_well acc n b h (Some e) q = by (compiled m acc e).0 refl
    where
      l : Lasts acc (compiled m acc e).1
      l = lasts-compiled m acc e

      by : (c : Compilation) → (compiled m acc e).0 ≡ c → StepsWell acc (Some w) (after_message n b c (compiled m acc e).1)
      by (Ok p) k = record { lasts = l; names = λ f j. subst (Named (compiled m acc e).1 (Some w)) (some_same (ready n b (Some p)) f j) (l n w.rule h, subst (λ x. NamedMessage (compiled m acc e).1 x (Some p)) (sym q) (stands_for m acc e p k)) }
      by (Err (Ill t)) k = record { lasts = l; names = λ f j. subst (Named (compiled m acc e).1 (Some w)) (some_same (ill_message t) f j) tt }
      by (Err Full) k = record { lasts = l; names = λ f j. let z : ◌≡◌ {A = ℕ} 0 1 = cc in let y : ⊥ = omega arith in elim y [ ] }

  rule_well : (acc : List (List ℕ)) → StepsWell acc (Some w) (fated m acc (Some w))
  rule_well acc = by (compiled m acc w.rule).0 refl
    where
      l : Lasts acc (compiled m acc w.rule).1
      l = lasts-compiled m acc w.rule

      by : (c : Compilation) → (compiled m acc w.rule).0 ≡ c → StepsWell acc (Some w) (after_rule m w c (compiled m acc w.rule).1)
      by (Ok n) k =
          let r = message_well (compiled m acc w.rule).1 n (m.mentioned w.rule (codes "oldSelf")) (stands_for m acc w.rule n k) w.message_expression refl in
          record { lasts = λ i e h. r.lasts i e (l i e h); names = r.names }
      by (Err (Ill t)) k = record { lasts = l; names = λ f j. subst (Named (compiled m acc w.rule).1 (Some w)) (some_same (ill_rule t) f j) tt }
      by (Err Full) k = record { lasts = l; names = λ f j. let z : ◌≡◌ {A = ℕ} 0 1 = cc in let y : ⊥ = omega arith in elim y [ ] }

pub steps_well : (m : Meaning) (acc : List (List ℕ)) (w : Option WrittenRule) → StepsWell acc w (fated m acc w)
steps_well m acc None = record { lasts = lasts_self acc; names = λ f k. subst (Named acc None) (some_same invalid f k) refl }
steps_well m acc (Some w) = rule_well m w acc

-- ---- all rules

module _ (m : Meaning) (t : List ℕ) where
  abbrev said : RuleEntry → Option WrittenRule
  said r = rule_said t r.rule

  pub fates_named : (rs : List RuleEntry) (ws : List (Option WrittenRule)) (known : List Fate) (acc : List (List ℕ)) → AllNamed acc ws known → (all_fated m t rs known acc).full ≡ None → AllNamed (all_fated m t rs known acc).accepted (ws ++ each said rs) (all_fated m t rs known acc).fates
  unfolding all_fated
  fates_named [] ws known acc h k = subst (λ z. AllNamed acc z known) (sym (append-nil ws)) h
  fates_named (r ∷ rs) ws known acc h k = by (fated m acc (said r)).fate refl k (λ vs gs a. fates_named rs vs gs a)
    where
      Next : Type 0
      Next = (vs : List (Option WrittenRule)) (gs : List Fate) (a : List (List ℕ)) → AllNamed a vs gs → (all_fated m t rs gs a).full ≡ None → AllNamed (all_fated m t rs gs a).accepted (vs ++ each said rs) (all_fated m t rs gs a).fates

      one : Option Fate → Fated
      one o = either o (λ f. all_fated m t rs (known ++ f ∷ []) (fated m acc (rule_said t r.rule)).accepted) (record { fates = known; full = Some r.place; accepted = (fated m acc (rule_said t r.rule)).accepted })

      by : (o : Option Fate) → (fated m acc (rule_said t r.rule)).fate ≡ o → (one o).full ≡ None → Next → AllNamed (one o).accepted (ws ++ each said (r ∷ rs)) (one o).fates
      by None e k next = let z : ◌≡◌ {A = ℕ} 0 1 = cc in let y : ⊥ = omega arith in elim y [ ]
      by (Some f) e k next =
          let s = steps_well m acc (rule_said t r.rule) in
          let a = (fated m acc (rule_said t r.rule)).accepted in
          let known-last = all_last acc a s.lasts ws known h in
          let done = next (ws ++ said r ∷ []) (known ++ f ∷ []) a (all_push a ws known (said r) f known-last (s.names f e)) k in
          subst (λ z. AllNamed (all_fated m t rs (known ++ f ∷ []) a).accepted z (all_fated m t rs (known ++ f ∷ []) a).fates) (append_assoc ws (said r ∷ []) (each said rs)) done
