-- What becomes of a rule that a host compiles.
use Rattle.std.specs.Prelude.{◌≡◌, ℕ, Bool, List, [], ◌∷◌, ◌++◌, Some, None, Ok, Err, codes, Option}
use Rattle.rule_host.specs.Compiling.{Compilation, compiled}
use Rattle.rule_host.specs.declared.answer.CompileError.TheVariants.{Full, Ill}
use Rattle.rule_host.specs.Meaning.{Meaning}
use Rattle.schema.specs.Laws.{rule_said}
use Rattle.schema.specs.Rules.{WrittenRule}
use Rattle.schema_tree.specs.declared.node.RuleEntry.{RuleEntry}
use Rattle.std.specs.List.{slice_get}

-- a rule is invalid, or the host takes the rule or its message expression for ill, with a text; or it is ready: its program, whether it
-- mentions `oldSelf`, and the program of its message expression
pub data Fate : Type 0 where
  invalid : Fate
  ill_rule : List ℕ → Fate
  ill_message : List ℕ → Fate
  ready : ℕ → Bool → Option ℕ → Fate

-- the fate of a rule, which there is not where the host's list is full, and the host's list after it
pub record StepTaken : Type 0 where
  pub fate : Option Fate
  pub accepted : List (List ℕ)

-- the message expression of the rule n was compiled
abbrev pub after_message : ℕ → Bool → Compilation → List (List ℕ) → StepTaken
after_message n b (Ok p) acc = record { fate = Some (ready n b (Some p)); accepted = acc }
after_message n b (Err (Ill t)) acc = record { fate = Some (ill_message t); accepted = acc }
after_message n b (Err Full) acc = record { fate = None; accepted = acc }

-- the rule n was compiled, and its message expression is to be, if there is one
abbrev pub with_message : Meaning → ℕ → Bool → Option (List ℕ) → List (List ℕ) → StepTaken
with_message m n b None acc = record { fate = Some (ready n b None); accepted = acc }
with_message m n b (Some e) acc = after_message n b (compiled m acc e).0 (compiled m acc e).1

-- the rule was compiled
abbrev pub after_rule : Meaning → WrittenRule → Compilation → List (List ℕ) → StepTaken
after_rule m w (Ok n) acc = with_message m n (m.mentioned w.rule (codes "oldSelf")) w.message_expression acc
after_rule m w (Err (Ill t)) acc = record { fate = Some (ill_rule t); accepted = acc }
after_rule m w (Err Full) acc = record { fate = None; accepted = acc }

-- a rule is compiled, then, if it is well, its message expression
abbrev pub fated : Meaning → List (List ℕ) → Option WrittenRule → StepTaken
fated m acc None = record { fate = Some invalid; accepted = acc }
fated m acc (Some w) = after_rule m w (compiled m acc w.rule).0 (compiled m acc w.rule).1

-- the fates of rules, the place of the first for which the host's list is full, and the host's list after them
pub record Fated : Type 0 where
  pub fates : List Fate
  pub full : Option ℕ
  pub accepted : List (List ℕ)

-- what f says of the fate, or else what there is without one
abbrev pub either : {A : Type 0} → Option Fate → (Fate → A) → A → A
either None f none = none
either (Some x) f none = f x

-- rules behind those whose fates are known
unfoldable pub all_fated : Meaning → List ℕ → List RuleEntry → List Fate → List (List ℕ) → Fated
all_fated m t [] known acc = record { fates = known; full = None; accepted = acc }
all_fated m t (r ∷ rs) known acc =
    either (fated m acc (rule_said t r.rule)).fate
    (λ f. all_fated m t rs (known ++ f ∷ []) (fated m acc (rule_said t r.rule)).accepted)
    (record { fates = known; full = Some r.place; accepted = (fated m acc (rule_said t r.rule)).accepted })

-- the programs of a fate stand for the expressions of the rule
abbrev pub NamedMessage : List (List ℕ) → Option (List ℕ) → Option ℕ → Type 0
NamedMessage acc None None = Unit {0}
NamedMessage acc (Some e) (Some p) = slice_get acc p ≡ Some e
NamedMessage acc None (Some p) = ⊥
NamedMessage acc (Some e) None = ⊥

abbrev pub Named : List (List ℕ) → Option WrittenRule → Fate → Type 0
Named acc w invalid = w ≡ None
Named acc w (ill_rule t) = Unit {0}
Named acc w (ill_message t) = Unit {0}
Named acc None (ready n b p) = ⊥
Named acc (Some w) (ready n b p) = (slice_get acc n ≡ Some w.rule) × NamedMessage acc w.message_expression p

-- so do those of all rules
abbrev pub AllNamed : List (List ℕ) → List (Option WrittenRule) → List Fate → Type 0
AllNamed acc [] [] = Unit {0}
AllNamed acc [] (f ∷ fs) = ⊥
AllNamed acc (w ∷ ws) [] = ⊥
AllNamed acc (w ∷ ws) (f ∷ fs) = Named acc w f × AllNamed acc ws fs
