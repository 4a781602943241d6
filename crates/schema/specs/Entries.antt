-- A schema by the entries of the table that it was read into. All texts are parts of one text.
use Rattle.std.specs.Prelude.{ℕ, ◌+◌, ◌-◌, ◌≤◌, min, Bool, true, false, cond, find, List, codes, Option, slice_index_or, unwrap_or}
use Rattle.json_values.specs.Meaning.{bool_of, key_at, list_of, map_of, no_entry, part_in, part_of, value_at}
use Rattle.json_values.specs.Value.{Value}
use Rattle.json_values.specs.declared.parts.Part.{Part}
use Rattle.json_values.specs.declared.table.Cell.{Cell}
use Rattle.json_values.specs.declared.table.Entry.{Entry}
use Rattle.json_values.specs.declared.table.Span.{Span}
use Rattle.schema.specs.Parts.{named_format, order}
use Rattle.schema.specs.declared.format.SchemaFormat.{SchemaFormat}
use Rattle.schema.specs.declared.format.SchemaFormat.TheVariants as format
use Rattle.schema.specs.declared.group.Group.{Group}
use Rattle.schema.specs.declared.group.Group.TheVariants.{Properties, Items, Additional, AllOf, OneOf, AnyOf}
use Rattle.std.specs.List.{flat_map, range_with_len}
use Rattle.std.specs.Option.{option_and_then, option_map, option_map_or}
use Rattle.std.specs.Str.{bytes_eq}

-- the value of the entry i
abbrev pub value_in : List ℕ → List Entry → ℕ → Value
value_in t es i = value_at (λ _. t) es i

-- its key
abbrev pub key_in : List ℕ → List Entry → ℕ → List ℕ
key_in t es i = key_at (λ _. t) es i

-- what it holds
abbrev pub cell_in : List Entry → ℕ → Cell
cell_in es i = (slice_index_or es i no_entry).cell

-- the place of its first byte
abbrev pub place_in : List Entry → ℕ → ℕ
place_in es i = (slice_index_or es i no_entry).place

-- the part of a span that lies below i
abbrev pub below : ℕ → Span → Span
below i sp = record { first = min sp.first i; count = min (sp.first + sp.count) i - min sp.first i }

-- a span ends before the entry i: children stand below their container
abbrev pub EndsBy : ℕ → Span → Type 0
EndsBy i sp = sp.first + sp.count ≤ i

-- no entries
abbrev pub nowhere : Span
nowhere = record { first = 0; count = 0 }

-- the members of the object i
abbrev pub members_at : List Entry → ℕ → Option Span
members_at es i = option_map (below i) (map_of (cell_in es i))

-- the items of the array i
abbrev pub elements_at : List Entry → ℕ → Option Span
elements_at es i = option_map (below i) (list_of (cell_in es i))

-- the entries of a span
abbrev pub numbers_in : Span → List ℕ
numbers_in sp = range_with_len sp.first sp.count

-- the part of the schema i under a key: the first of its members that has the key
unfoldable pub part_at : List ℕ → List Entry → List ℕ → ℕ → Option ℕ
part_at t es key i = option_and_then (λ sp. find (λ k. bytes_eq (key_in t es k) key) (numbers_in sp)) (members_at es i)

-- what it holds
abbrev pub cell_under : List ℕ → List Entry → List ℕ → ℕ → Option Cell
cell_under t es key i = option_map (cell_in es) (part_at t es key i)

-- a flag of the schema i
abbrev pub flag_at : List ℕ → List Entry → List ℕ → ℕ → Bool
flag_at t es key i = unwrap_or (option_and_then bool_of (cell_under t es key i)) false

-- whether the schema i takes additional properties
abbrev pub is_map_at : List ℕ → List Entry → ℕ → Bool
is_map_at t es i = option_map_or (λ c. unwrap_or (bool_of c) true) (cell_under t es (codes "additionalProperties") i) false

-- the text under a key of the schema i
abbrev pub text_at : List ℕ → List Entry → List ℕ → ℕ → Option Part
text_at t es key i = option_and_then part_in (cell_under t es key i)

-- the format of the schema i
abbrev pub format_at : List ℕ → List Entry → ℕ → SchemaFormat
format_at t es i =
    cond (flag_at t es (codes "x-kubernetes-int-or-string") i) format.IntOrString
    (named_format (option_map (part_of (λ _. t)) (text_at t es (codes "format") i)))

-- the span of one entry
abbrev pub alone : ℕ → Span
alone i = record { first = i; count = 1 }

-- the object that additional properties have as their schema
abbrev pub additional_at : List ℕ → List Entry → ℕ → Option ℕ
additional_at t es i = option_and_then (λ k. option_map (λ _. k) (members_at es k)) (part_at t es (codes "additionalProperties") i)

-- the items under a key
abbrev pub elements_under : List ℕ → List Entry → List ℕ → ℕ → Option Span
elements_under t es key i = option_and_then (elements_at es) (part_at t es key i)

-- the entries that a group of links leads to, if what is under its key has entries
abbrev pub links_at : List ℕ → List Entry → Group → ℕ → Option Span
links_at t es Properties i = option_and_then (members_at es) (part_at t es (codes "properties") i)
links_at t es Items i = option_map alone (part_at t es (codes "items") i)
links_at t es Additional i = option_map alone (additional_at t es i)
links_at t es AllOf i = elements_under t es (codes "allOf") i
links_at t es OneOf i = elements_under t es (codes "oneOf") i
links_at t es AnyOf i = elements_under t es (codes "anyOf") i

-- the entries that a group of links leads to
abbrev pub targets_at : List ℕ → List Entry → Group → ℕ → Span
targets_at t es g i = unwrap_or (links_at t es g i) nowhere

-- the entries of the rules
abbrev pub rules_at : List ℕ → List Entry → ℕ → Span
rules_at t es i = unwrap_or (elements_under t es (codes "x-kubernetes-validations") i) nowhere

-- the entries that links lead to, in their order
abbrev pub linked_at : List ℕ → List Entry → ℕ → List ℕ
linked_at t es i = flat_map (λ g. numbers_in (targets_at t es g i)) order
