-- A rule by the entries of the table that it was read into.
use Rattle.std.specs.Prelude.{ℕ, Bool, true, false, cond, List, Some, None, Ok, Err, codes, Option, Result}
use Rattle.json_values.specs.Meaning.{bool_of, part_in}
use Rattle.json_values.specs.declared.parts.Part.{Part}
use Rattle.json_values.specs.declared.table.Cell.{Cell}
use Rattle.json_values.specs.declared.table.Cell.TheVariants as cell
use Rattle.json_values.specs.declared.table.Entry.{Entry}
use Rattle.schema.specs.Entries.{cell_under}
use Rattle.schema.specs.declared.rule.InvalidRule.{InvalidRule}
use Rattle.schema.specs.declared.rule.Rule.{Rule}
use Rattle.std.specs.Option.{ok_or, option_and_then, option_map}

-- what f answers to the value, if the rule is valid so far
abbrev pub and_then : {A B : Type 0} → Result A InvalidRule → (A → Result B InvalidRule) → Result B InvalidRule
and_then (Ok x) f = f x
and_then (Err e) f = Err e

-- what makes a rule invalid
abbrev pub invalid : InvalidRule
invalid = record {}

-- a text
abbrev pub needed_part : Option Cell → Result Part InvalidRule
needed_part o = ok_or (option_and_then part_in o) invalid

abbrev pub is_null : Cell → Bool
is_null cell.Null = true
is_null (cell.Bool b) = false
is_null (cell.Int z) = false
is_null (cell.Uint n) = false
is_null (cell.Text p) = false
is_null (cell.List sp) = false
is_null (cell.Map sp) = false

-- null or absent, or a value that `read` takes
abbrev pub free_cell : {A : Type 0} → (Cell → Option A) → Option Cell → Result (Option A) InvalidRule
free_cell read None = Ok None
free_cell read (Some c) = cond (is_null c) (Ok None) (ok_or (option_map Some (read c)) invalid)

-- the rule i
abbrev pub rule_at : List ℕ → List Entry → ℕ → Result Rule InvalidRule
rule_at t es i =
    and_then (needed_part (cell_under t es (codes "rule") i)) (λ r.
    and_then (free_cell part_in (cell_under t es (codes "message") i)) (λ m.
    and_then (free_cell part_in (cell_under t es (codes "messageExpression") i)) (λ x.
    and_then (free_cell part_in (cell_under t es (codes "reason") i)) (λ w.
    and_then (free_cell part_in (cell_under t es (codes "fieldPath") i)) (λ f.
    and_then (free_cell bool_of (cell_under t es (codes "optionalOldSelf") i)) (λ o.
    Ok (record { rule = r; message = m; message_expression = x; reason = w; field_path = f; optional_old_self = o })))))))
