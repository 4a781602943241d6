-- The parts of a schema, which is a JSON value. One that is not an object has no parts.
use Rattle.std.specs.Prelude.{ℕ, Bool, false, true, cond, List, [], ◌∷◌, Some, None, codes, Option, unwrap_or}
use Rattle.json_values.specs.Value.{Value, Items, Members, null, bool, int, uint, text, list, map, no_item, item, no_member, member}
use Rattle.schema.specs.declared.format.SchemaFormat.{SchemaFormat}
use Rattle.schema.specs.declared.format.SchemaFormat.TheVariants as format
use Rattle.schema.specs.declared.group.Group.{Group}
use Rattle.schema.specs.declared.group.Group.TheVariants.{Properties, Items as ItemLink, Additional, AllOf, OneOf, AnyOf}
use Rattle.std.specs.List.{flat_map}
use Rattle.std.specs.Option.{option_and_then, option_map}
use Rattle.std.specs.Str.{bytes_eq}

-- ---- objects and arrays

-- the value of the first member that has the key
abbrev pub member_in : List ℕ → Members → Option Value
member_in key no_member = None
member_in key (member k v ms) = cond (bytes_eq k key) (Some v) (member_in key ms)

-- the members of an object
abbrev pub members : Value → Option Members
members null = None
members (bool b) = None
members (int z) = None
members (uint n) = None
members (text t) = None
members (list vs) = None
members (map ms) = Some ms

-- the items of an array
abbrev pub elements : Value → Option Items
elements null = None
elements (bool b) = None
elements (int z) = None
elements (uint n) = None
elements (text t) = None
elements (list vs) = Some vs
elements (map ms) = None

-- the part of a schema under a key
abbrev pub part : List ℕ → Value → Option Value
part key s = option_and_then (member_in key) (members s)

abbrev pub items_list : Items → List Value
items_list no_item = []
items_list (item v vs) = v ∷ items_list vs

abbrev pub member_values : Members → List Value
member_values no_member = []
member_values (member k v ms) = v ∷ member_values ms

abbrev pub member_keys : Members → List (List ℕ)
member_keys no_member = []
member_keys (member k v ms) = k ∷ member_keys ms

-- what there is of it, or nothing
abbrev pub all_items : Option Items → List Value
all_items None = []
all_items (Some vs) = items_list vs

abbrev pub all_members : Option Members → List Value
all_members None = []
all_members (Some ms) = member_values ms

abbrev pub all_keys : Option Members → List (List ℕ)
all_keys None = []
all_keys (Some ms) = member_keys ms

abbrev pub single : Option Value → List Value
single None = []
single (Some v) = v ∷ []

-- ---- flags and formats

-- a truth value
abbrev pub bool_of : Value → Option Bool
bool_of null = None
bool_of (bool b) = Some b
bool_of (int z) = None
bool_of (uint n) = None
bool_of (text t) = None
bool_of (list vs) = None
bool_of (map ms) = None

-- a flag is set by a literal `true` alone
abbrev pub flag : List ℕ → Value → Bool
flag key s = unwrap_or (option_and_then bool_of (part key s)) false

-- a text
abbrev pub text_of : Value → Option (List ℕ)
text_of null = None
text_of (bool b) = None
text_of (int z) = None
text_of (uint n) = None
text_of (text t) = Some t
text_of (list vs) = None
text_of (map ms) = None

-- the format that a name stands for
abbrev pub named_format : Option (List ℕ) → SchemaFormat
named_format None = format.None
named_format (Some t) = cond (bytes_eq t (codes "duration")) format.Duration (cond (bytes_eq t (codes "byte")) format.Bytes format.None)

-- the format of texts under a schema; int-or-string prevents any
abbrev pub format_of : Value → SchemaFormat
format_of s = cond (flag (codes "x-kubernetes-int-or-string") s) format.IntOrString (named_format (option_and_then text_of (part (codes "format") s)))

-- neither absent nor `false`
abbrev pub open_to : Option Value → Bool
open_to None = false
open_to (Some v) = unwrap_or (bool_of v) true

-- a map takes additional properties
abbrev pub is_map : Value → Bool
is_map s = open_to (part (codes "additionalProperties") s)

-- ---- links to other schemas

-- an object, as a schema that stands alone
abbrev pub only_object : Value → Option Value
only_object v = option_map (λ _. v) (members v)

-- the names of the properties, ascending
abbrev pub property_names : Value → List (List ℕ)
property_names s = all_keys (option_and_then members (part (codes "properties") s))

-- the schemas that a group of links leads to
abbrev pub linked_by : Group → Value → List Value
linked_by Properties s = all_members (option_and_then members (part (codes "properties") s))
linked_by ItemLink s = single (part (codes "items") s)
linked_by Additional s = single (option_and_then only_object (part (codes "additionalProperties") s))
linked_by AllOf s = all_items (option_and_then elements (part (codes "allOf") s))
linked_by OneOf s = all_items (option_and_then elements (part (codes "oneOf") s))
linked_by AnyOf s = all_items (option_and_then elements (part (codes "anyOf") s))

-- the groups of links, in the order in which they are followed
abbrev pub order : List Group
order = Properties ∷ ItemLink ∷ Additional ∷ AllOf ∷ OneOf ∷ AnyOf ∷ []

-- the schemas that links lead to, in their order
abbrev pub linked : Value → List Value
linked s = flat_map (λ g. linked_by g s) order
