-- A rule that was compiled.
use Rattle.std.proofs.Common.{◌≡◌, ℕ, Bool, Option, refl, suc, ◌+◌, ◌<◌, ◌≤◌, List, [], ◌∷◌, ◌++◌, length, get_or, drop, Some, None, codes, sym, ap, ◌∙◌, arith, drop-cons, subst}
use Rattle.compilation.specs.Compiled.{fate_in, fate_of}
use Rattle.compilation.specs.declared.fault.HostFull.{HostFull}
use Rattle.compilation.specs.declared.validation.CompilationError.{CompilationError}
use Rattle.compilation.specs.declared.validation.CompilationResult.{CompilationResult}
use Rattle.fixed.specs.declared.refusal.Full.{Full}
use Rattle.std.specs.Prelude.{MatchResult, Result, Ok, Err}
use Rattle.std.specs.Result.{IsErrAnd}
use Rattle.compilation.specs.Fates.{Fate, after_message, after_rule, all_fated, either, fated, with_message}
use Rattle.schema.specs.Laws.{rule_said}
use Rattle.schema_tree.specs.declared.node.RuleEntry.{RuleEntry}
use Rattle.rule_host.proofs.Compilings.{compiling_laws}
use Rattle.rule_host.specs.Compiling.{Compilation, compiled, mentions_at}
use Rattle.rule_host.specs.Meaning.{Meaning}
use Rattle.schema.specs.Rules.{WrittenRule}
use Rattle.std.proofs.lemmas.List.{drop_all}
use Rattle.std.proofs.lemmas.Option.{slice_get-get_or}
use Rattle.std.specs.Option.{option_map}
use Rattle.std.specs.List.{slice_get}
use Rattle.json_values.specs.declared.parts.Source.TheVariants.{Schema}

module _ (m : Meaning) (acc : List (List ℕ)) where
  -- a number stands for the expression that it was given for
  pub stands_for : (e : List ℕ) (n : ℕ) → (compiled m acc e).0 ≡ Ok n → slice_get (compiled m acc e).1 n ≡ Some e
  stands_for e n h = let s = compiling_laws.stands m acc e n h in slice_get-get_or (compiled m acc e).1 n [] s.0 ∙ ap Some s.1

  -- whether a program mentions a name, by the expression
  pub mention_of : (e name : List ℕ) (n : ℕ) → (compiled m acc e).0 ≡ Ok n → mentions_at m (compiled m acc e).1 n name ≡ Some (m.mentioned e name)
  mention_of e name n h = ap (option_map (λ x. m.mentioned x name)) (stands_for e n h)

  -- a host's answer to a message expression, and its list then
  pub message_taken : (n : ℕ) (b : Bool) (o : Option (List ℕ)) (e : List ℕ) (r : Compilation) (l : List (List ℕ)) → o ≡ Some e → r ≡ (compiled m acc e).0 → l ≡ (compiled m acc e).1 → after_message n b r l ≡ with_message m n b o acc
  message_taken n b o e r l h k j = rw (h, k, j) refl

  -- and to a rule's
  pub rule_taken : (o : Option WrittenRule) (w : WrittenRule) (e : List ℕ) (r : Compilation) (l : List (List ℕ)) → o ≡ Some w → e ≡ w.rule → r ≡ (compiled m acc e).0 → l ≡ (compiled m acc e).1 → after_rule m w r l ≡ fated m acc o
  rule_taken o w e r l h i k j = rw (h, k, j, i) refl

  pub fated_program : (w : WrittenRule) (n : ℕ) → (compiled m acc w.rule).0 ≡ Ok n → fated m acc (Some w) ≡ with_message m n (m.mentioned w.rule (codes "oldSelf")) w.message_expression (compiled m acc w.rule).1
  fated_program w n h = ap (λ c. after_rule m w c (compiled m acc w.rule).1) h

-- ---- rules one after another

-- what is read past the end of a list of rules
abbrev pub blank : RuleEntry
blank = record { place = 0; rule = Ok (record { rule = record { source = Schema; start = 0; len = 0 }; message = None; message_expression = None; reason = None; field_path = None; optional_old_self = None }) }

module _ (m : Meaning) (t : List ℕ) (rs : List RuleEntry) (k : ℕ) (lt : k < length rs) (d : RuleEntry) (known : List Fate) (acc : List (List ℕ)) where
  abbrev r : RuleEntry
  r = get_or rs k d

  first : all_fated m t (drop k rs) known acc ≡ all_fated m t (r ∷ drop (k + 1) rs) known acc
  first =
      let next : suc k ≡ k + 1 = omega arith in
      ap (λ z. all_fated m t z known acc) (drop-cons rs k d lt ∙ ap (λ n. r ∷ drop n rs) next)

  pub fated_more : (f : Fate) → Some f ≡ (fated m acc (rule_said t r.rule)).fate → all_fated m t (drop k rs) known acc ≡ all_fated m t (drop (k + 1) rs) (known ++ f ∷ []) (fated m acc (rule_said t r.rule)).accepted
  unfolding all_fated
  fated_more f h = first ∙ sym (ap (λ o. either o (λ x. all_fated m t (drop (k + 1) rs) (known ++ x ∷ []) (fated m acc (rule_said t r.rule)).accepted) (record { fates = known; full = Some r.place; accepted = (fated m acc (rule_said t r.rule)).accepted })) h)

  pub fated_full : None ≡ (fated m acc (rule_said t r.rule)).fate → all_fated m t (drop k rs) known acc ≡ record { fates = known; full = Some r.place; accepted = (fated m acc (rule_said t r.rule)).accepted }
  unfolding all_fated
  fated_full h = first ∙ sym (ap (λ o. either o (λ x. all_fated m t (drop (k + 1) rs) (known ++ x ∷ []) (fated m acc (rule_said t r.rule)).accepted) (record { fates = known; full = Some r.place; accepted = (fated m acc (rule_said t r.rule)).accepted })) h)

pub fated_end : (m : Meaning) (t : List ℕ) (rs : List RuleEntry) (k : ℕ) (known : List Fate) (acc : List (List ℕ)) → length rs ≤ k → all_fated m t (drop k rs) known acc ≡ record { fates = known; full = None; accepted = acc }
unfolding all_fated
fated_end m t rs k known acc h = ap (λ z. all_fated m t z known acc) (drop_all k rs h)

-- ---- an answer whose error is told by its place

abbrev V : Type 0
V = Result CompilationResult CompilationError

ok_same : (x y : V) → ◌≡◌ {A = Result V HostFull} (Ok x) (Ok y) → x ≡ y
ok_same x y h = cc

pub fate_kept : (r : Result V Full) (m : Result V HostFull) (P : Full → HostFull → Type 0) (v : V) → MatchResult r (λ x. m ≡ Ok x) (λ e. IsErrAnd m (P e)) → m ≡ Ok v → fate_in r ≡ Some (fate_of v)
fate_kept (Ok x) m P v h k = ap (λ z. Some (fate_of z)) (ok_same x v (sym h ∙ k))
fate_kept (Err e) m P v h k = absurd (subst (λ z. IsErrAnd z (P e)) k h)

ok_is_no_err : (x : V) (f : HostFull) → Ok x ≡ Err f → ⊥
ok_is_no_err x f h = cc

pub fate_lost : (r : Result V Full) (m : Result V HostFull) (P : Full → HostFull → Type 0) (f : HostFull) → MatchResult r (λ x. m ≡ Ok x) (λ e. IsErrAnd m (P e)) → m ≡ Err f → (fate_in r ≡ None) × P (record {}) f
fate_lost (Ok x) m P f h k = absurd (ok_is_no_err x f (sym h ∙ k))
fate_lost (Err e) m P f h k = (refl, subst (λ z. IsErrAnd z (P e)) k h)
