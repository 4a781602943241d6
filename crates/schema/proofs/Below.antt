-- Where parts of a schema stand: below it.
use Rattle.std.proofs.Common.{ℕ, zero, suc, ◌+◌, ◌<◌, ◌≤◌, Bool, true, false, cond, List, Some, None, codes, Option, unwrap_or, IfSome, arith}
use Rattle.json_values.specs.Meaning.{list_of, map_of}
use Rattle.json_values.specs.declared.table.Entry.{Entry}
use Rattle.json_values.specs.declared.table.Span.{Span}
use Rattle.schema.specs.Entries.{EndsBy, additional_at, alone, below, cell_in, elements_at, key_in, members_at, nowhere, numbers_in, part_at, rules_at, targets_at}
use Rattle.schema.specs.declared.group.Group.{Group}
use Rattle.schema.specs.declared.group.Group.TheVariants.{Properties, Items, Additional, AllOf, OneOf, AnyOf}
use Rattle.std.specs.List.{find, range_with_len}
use Rattle.std.specs.Option.{option_and_then, option_map}
use Rattle.std.specs.Str.{bytes_eq}

pub members_below : (es : List Entry) (i : ℕ) → IfSome (members_at es i) (EndsBy i)
members_below es i = of (map_of (cell_in es i))
  where
    of : (o : Option Span) → IfSome (option_map (below i) o) (EndsBy i)
    of None = tt
    of (Some sp) = omega arith

pub elements_below : (es : List Entry) (i : ℕ) → IfSome (elements_at es i) (EndsBy i)
elements_below es i = of (list_of (cell_in es i))
  where
    of : (o : Option Span) → IfSome (option_map (below i) o) (EndsBy i)
    of None = tt
    of (Some sp) = omega arith

pub found_below : (test : ℕ → Bool) (first n i : ℕ) → first + n ≤ i → IfSome (find test (range_with_len first n)) (λ k. k < i)
found_below test first zero i h = tt
found_below test first (suc n) i h = of (test first) (find test (range_with_len (first + 1) n)) (found_below test (first + 1) n i (omega arith))
  where
    of : (b : Bool) (o : Option ℕ) → IfSome o (λ k. k < i) → IfSome (cond b (Some first) o) (λ k. k < i)
    of true o q = omega arith
    of false o q = q

module _ (t : List ℕ) (es : List Entry) where
  pub parts_below : (key : List ℕ) (i : ℕ) → IfSome (part_at t es key i) (λ k. k < i)
  unfolding part_at
  parts_below key i = of (members_at es i) (members_below es i)
    where
      of : (o : Option Span) → IfSome o (EndsBy i) → IfSome (option_and_then (λ sp. find (λ k. bytes_eq (key_in t es k) key) (numbers_in sp)) o) (λ k. k < i)
      of None h = tt
      of (Some sp) h = found_below (λ k. bytes_eq (key_in t es k) key) sp.first sp.count i h

  -- the children of a part stand below it, and so below the schema
  under_below : (f : ℕ → Option Span) → ((k : ℕ) → IfSome (f k) (EndsBy k)) → (i : ℕ) (o : Option ℕ) → IfSome o (λ k. k < i) → EndsBy i (unwrap_or (option_and_then f o) nowhere)
  under_below f h i None q = omega arith
  under_below f h i (Some k) q = of (f k) (h k)
    where
      of : (o : Option Span) → IfSome o (EndsBy k) → EndsBy i (unwrap_or o nowhere)
      of None p = omega arith
      of (Some sp) p = omega arith

  alone_below : (i : ℕ) (o : Option ℕ) → IfSome o (λ k. k < i) → EndsBy i (unwrap_or (option_map alone o) nowhere)
  alone_below i None q = omega arith
  alone_below i (Some k) q = omega arith

  additional_below : (i : ℕ) → IfSome (additional_at t es i) (λ k. k < i)
  additional_below i = of (part_at t es (codes "additionalProperties") i) (parts_below (codes "additionalProperties") i)
    where
      inner : (k : ℕ) → k < i → (o : Option Span) → IfSome (option_map (λ _. k) o) (λ j. j < i)
      inner k q None = tt
      inner k q (Some sp) = q

      of : (o : Option ℕ) → IfSome o (λ k. k < i) → IfSome (option_and_then (λ k. option_map (λ _. k) (members_at es k)) o) (λ k. k < i)
      of None q = tt
      of (Some k) q = inner k q (members_at es k)

  pub rules_below : (i : ℕ) → EndsBy i (rules_at t es i)
  rules_below i = under_below (elements_at es) (elements_below es) i (part_at t es (codes "x-kubernetes-validations") i) (parts_below (codes "x-kubernetes-validations") i)

  pub links_below : (g : Group) (i : ℕ) → EndsBy i (targets_at t es g i)
  links_below Properties i = under_below (members_at es) (members_below es) i (part_at t es (codes "properties") i) (parts_below (codes "properties") i)
  links_below Items i = alone_below i (part_at t es (codes "items") i) (parts_below (codes "items") i)
  links_below Additional i = alone_below i (additional_at t es i) (additional_below i)
  links_below AllOf i = under_below (elements_at es) (elements_below es) i (part_at t es (codes "allOf") i) (parts_below (codes "allOf") i)
  links_below OneOf i = under_below (elements_at es) (elements_below es) i (part_at t es (codes "oneOf") i) (parts_below (codes "oneOf") i)
  links_below AnyOf i = under_below (elements_at es) (elements_below es) i (part_at t es (codes "anyOf") i) (parts_below (codes "anyOf") i)
