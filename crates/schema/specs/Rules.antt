-- The rules of a schema.
use Rattle.std.specs.Prelude.{ℕ, Bool, true, false, cond, List, map as each, Some, None, codes, Option}
use Rattle.json_values.specs.Meaning.{part_of}
use Rattle.json_values.specs.Value.{Value, null, bool, int, uint, text, list, map}
use Rattle.json_values.specs.declared.parts.Part.{Part}
use Rattle.schema.specs.Parts.{all_items, bool_of, elements, part, text_of}
use Rattle.schema.specs.declared.rule.Rule.{Rule}
use Rattle.std.specs.Option.{option_and_then, option_map}

-- a rule by its texts: an absent text is told from an empty one
pub record WrittenRule : Type 0 where
  pub rule : List ℕ
  pub message : Option (List ℕ)
  pub message_expression : Option (List ℕ)
  pub reason : Option (List ℕ)
  pub field_path : Option (List ℕ)
  pub optional_old_self : Option Bool

-- what f answers to the value in o, if there is one
abbrev pub then : {A B : Type 0} → Option A → (A → Option B) → Option B
then o f = option_and_then f o

-- a text that has to be there
abbrev pub needed_text : Option Value → Option (List ℕ)
needed_text o = then o text_of

abbrev pub is_null : Value → Bool
is_null null = true
is_null (bool b) = false
is_null (int z) = false
is_null (uint n) = false
is_null (text t) = false
is_null (list vs) = false
is_null (map ms) = false

-- null or absent, or a value that `read` takes; nothing where it is another value
abbrev pub free : {A : Type 0} → (Value → Option A) → Option Value → Option (Option A)
free read None = Some None
free read (Some v) = cond (is_null v) (Some None) (option_map Some (read v))

-- the rule that an item of `x-kubernetes-validations` is; nothing where it is invalid. What is not an object has no `rule`
abbrev pub rule_of : Value → Option WrittenRule
rule_of v =
    then (needed_text (part (codes "rule") v)) (λ r.
    then (free text_of (part (codes "message") v)) (λ m.
    then (free text_of (part (codes "messageExpression") v)) (λ x.
    then (free text_of (part (codes "reason") v)) (λ w.
    then (free text_of (part (codes "fieldPath") v)) (λ f.
    then (free bool_of (part (codes "optionalOldSelf") v)) (λ o.
    Some (record { rule = r; message = m; message_expression = x; reason = w; field_path = f; optional_old_self = o })))))))

-- the rules of a schema, in array order; nothing stands for one that is invalid
abbrev pub rules_of : Value → List (Option WrittenRule)
rules_of s = each rule_of (all_items (option_and_then elements (part (codes "x-kubernetes-validations") s)))

-- what a rule that was read says, where its texts are parts of `text`
abbrev pub rule_means : List ℕ → Rule → WrittenRule
rule_means t r = record {
  rule = said r.rule;
  message = option_map said r.message;
  message_expression = option_map said r.message_expression;
  reason = option_map said r.reason;
  field_path = option_map said r.field_path;
  optional_old_self = r.optional_old_self;
}
  where
    said : Part → List ℕ
    said p = part_of (λ _. t) p
