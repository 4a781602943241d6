-- The text of an outcome, and the same outcome with another text.
use Rattle.std.specs.Prelude.{◌≡◌, Some, None, Option}
use Rattle.rule_host.specs.declared.answer.Outcome.{Outcome}
use Rattle.rule_host.specs.declared.answer.Outcome.TheVariants.{True, False, Text, Other, Undeclared, Failure}

-- the text, if there is one
abbrev pub text_of : {T : Type 0} → Outcome T → Option T
text_of True = None
text_of False = None
text_of (Text t) = Some t
text_of Other = None
text_of (Undeclared t) = Some t
text_of (Failure t) = Some t

-- the same outcome with f of its text
abbrev pub outcome_map : {T U : Type 0} → (T → U) → Outcome T → Outcome U
outcome_map f True = True
outcome_map f False = False
outcome_map f (Text t) = Text (f t)
outcome_map f Other = Other
outcome_map f (Undeclared t) = Undeclared (f t)
outcome_map f (Failure t) = Failure (f t)

-- the same by a relation: w is v with a text to which R takes that of v
abbrev pub MapsOutcome : {T U : Type 0} → (T → U → Type 0) → Outcome T → Outcome U → Type 0
MapsOutcome R True w = w ≡ True
MapsOutcome R False w = w ≡ False
MapsOutcome {T} {U} R (Text t) w = (u : U) × R t u × (w ≡ Text u)
MapsOutcome R Other w = w ≡ Other
MapsOutcome {T} {U} R (Undeclared t) w = (u : U) × R t u × (w ≡ Undeclared u)
MapsOutcome {T} {U} R (Failure t) w = (u : U) × R t u × (w ≡ Failure u)
