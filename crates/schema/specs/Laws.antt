-- What the entries of a schema mean: its parts, links and rules are those of the value.
use Rattle.std.specs.Prelude.{◌≡◌, ℕ, ◌<◌, List, map as each, Some, None, Ok, Err, Option, Result, IfSome}
use Rattle.json_values.specs.declared.table.Entry.{Entry}
use Rattle.schema.specs.Entries.{EndsBy, elements_at, flag_at, format_at, is_map_at, key_in, linked_at, members_at, numbers_in, part_at, rules_at, targets_at, value_in}
use Rattle.schema.specs.Parts.{flag, format_of, is_map, linked, linked_by, part, property_names}
use Rattle.schema.specs.RuleEntries.{rule_at}
use Rattle.schema.specs.Rules.{WrittenRule, rule_means, rule_of, rules_of}
use Rattle.schema.specs.declared.group.Group.{Group}
use Rattle.schema.specs.declared.group.Group.TheVariants.{Properties}
use Rattle.schema.specs.declared.rule.InvalidRule.{InvalidRule}
use Rattle.schema.specs.declared.rule.Rule.{Rule}
use Rattle.std.specs.Option.{option_map}

-- a rule that was read, by its texts; nothing stands for one that is invalid
abbrev pub rule_said : List ℕ → Result Rule InvalidRule → Option WrittenRule
rule_said t (Ok r) = Some (rule_means t r)
rule_said t (Err e) = None

-- for any text, entries and number of an entry
pub record PartsMean (t : List ℕ) (es : List Entry) (i : ℕ) : Type 0 where
  pub parts : (key : List ℕ) → option_map (value_in t es) (part_at t es key i) ≡ part key (value_in t es i)
  pub flags : (key : List ℕ) → flag_at t es key i ≡ flag key (value_in t es i)
  pub maps : is_map_at t es i ≡ is_map (value_in t es i)
  pub formats : format_at t es i ≡ format_of (value_in t es i)
  pub links : (g : Group) → each (value_in t es) (numbers_in (targets_at t es g i)) ≡ linked_by g (value_in t es i)
  pub all_links : each (value_in t es) (linked_at t es i) ≡ linked (value_in t es i)
  pub names : each (key_in t es) (numbers_in (targets_at t es Properties i)) ≡ property_names (value_in t es i)
  pub rule : rule_said t (rule_at t es i) ≡ rule_of (value_in t es i)
  pub rules : each (λ k. rule_said t (rule_at t es k)) (numbers_in (rules_at t es i)) ≡ rules_of (value_in t es i)
  pub members_below : IfSome (members_at es i) (EndsBy i)
  pub elements_below : IfSome (elements_at es i) (EndsBy i)
  pub parts_below : (key : List ℕ) → IfSome (part_at t es key i) (λ k. k < i)
  pub links_below : (g : Group) → EndsBy i (targets_at t es g i)
  pub rules_below : EndsBy i (rules_at t es i)
