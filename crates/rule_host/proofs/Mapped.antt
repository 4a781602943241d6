-- What `map` gives, where its relation is a function.
use Rattle.std.proofs.Common.{◌≡◌, ℕ, List, None, Some, Option, option_map, MatchOption, take, refl, ap, ◌∙◌}
use Rattle.std.specs.Option.{IsSomeAnd}
use Rattle.std.specs.Borrow.{Bor}
use Rattle.std.proofs.lemmas.List.{take_all}
use Rattle.rule_host.specs.Meaning.{ShortEvaluation}
use Rattle.rule_host.specs.Outcomes.{outcome_map, MapsOutcome}
use Rattle.rule_host.specs.declared.answer.Outcome.{Outcome}
use Rattle.rule_host.specs.declared.answer.Outcome.TheVariants.{True, False, Text, Other, Undeclared, Failure}

-- of an outcome
pub mapped : {T U : Type 0} (R : T → U → Type 0) (f : T → U) → ((t : T) (u : U) → R t u → u ≡ f t) → (v : Outcome T) (w : Outcome U) → MapsOutcome R v w → w ≡ outcome_map f v
mapped R f h True w e = e
mapped R f h False w e = e
mapped R f h (Text t) w e = e.2 ∙ ap Text (h t e.0 e.1)
mapped R f h Other w e = e
mapped R f h (Undeclared t) w e = e.2 ∙ ap Undeclared (h t e.0 e.1)
mapped R f h (Failure t) w e = e.2 ∙ ap Failure (h t e.0 e.1)

-- of an option, seen through h
pub mapped_option : {A B C : Type 0} (R : A → C → Type 0) (f : A → B) (h : C → B) → ((x : A) (u : C) → R x u → h u ≡ f x) → (o : Option A) (r : Option C) → MatchOption o (r ≡ None) (λ x. IsSomeAnd r (R x)) → option_map h r ≡ option_map f o
mapped_option R f h k None r e = ap (option_map h) e
mapped_option R f h k (Some x) None e = absurd e
mapped_option R f h k (Some x) (Some u) e = ap Some (k x u e)

-- a short text is not cut
pub uncut : (v : Outcome (Bor (List ℕ))) → ShortEvaluation (outcome_map (λ t. t.now) v) → outcome_map (λ t. take 1024 t.now) v ≡ outcome_map (λ t. t.now) v
uncut True h = refl
uncut False h = refl
uncut (Text t) h = ap Text (take_all 1024 t.now h)
uncut Other h = refl
uncut (Undeclared t) h = ap Undeclared (take_all 1024 t.now h)
uncut (Failure t) h = ap Failure (take_all 1024 t.now h)
