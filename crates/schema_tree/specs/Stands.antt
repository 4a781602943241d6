-- What the tables of a loaded schema mean.
use Rattle.std.specs.Prelude.{◌≡◌, ℕ, zero, suc, ◌+◌, ◌≤◌, List, [], ◌∷◌, map as each, length, take, drop, codes}
use Rattle.json_values.specs.Value.{Value, null}
use Rattle.json_values.specs.declared.table.Entry.{Entry}
use Rattle.schema.specs.Entries.{key_in, numbers_in, value_in}
use Rattle.schema.specs.Laws.{rule_said}
use Rattle.schema.specs.Parts.{flag, format_of, is_map, linked, linked_by, part, property_names}
use Rattle.schema.specs.Rules.{rules_of}
use Rattle.schema.specs.declared.group.Group.{Group}
use Rattle.schema_tree.specs.Nodes.{group_nodes, target}
use Rattle.schema_tree.specs.declared.node.Node.{Node}
use Rattle.schema_tree.specs.declared.node.RuleEntry.{RuleEntry}
use Rattle.std.specs.Option.{option_map}

-- the nodes of a schema but for the root, those that links of one node lead to beside each other; and the rules, in loading order
pub record Tables : Type 0 where
  pub nodes : List Node
  pub rules : List RuleEntry

-- a node has the parts of the schema s
pub record HasParts (t : List ℕ) (es : List Entry) (tables : Tables) (row : Node) (s : Value) : Type 0 where
  pub maps : row.is_map ≡ is_map s
  pub nullable : row.nullable ≡ flag (codes "nullable") s
  pub preserves : row.preserve_unknown_fields ≡ flag (codes "x-kubernetes-preserve-unknown-fields") s
  pub embeds : row.embedded_resource ≡ flag (codes "x-kubernetes-embedded-resource") s
  pub format : row.format ≡ format_of s
  pub default : option_map (value_in t es) row.default ≡ part (codes "default") s
  pub names : each (key_in t es) (numbers_in row.targets.properties) ≡ property_names s
  pub counts : (g : Group) → (target row.targets g).count ≡ length (linked_by g s)
  pub rules : each (λ r. rule_said t r.rule) (take row.rules.count (drop row.rules.first tables.rules)) ≡ rules_of s
  pub rules_in : row.rules.first + row.rules.count ≤ length tables.rules
  pub links_in : row.links + length (linked s) ≤ length tables.nodes

-- and its links lead to the schemas that those of s lead to
pub record Describes (t : List ℕ) (es : List Entry) (tables : Tables) (row : Node) (s : Value) : Type 0 where
  pub parts : HasParts t es tables row s
  pub links : (g : Group) → each (value_in t es) (numbers_in (target row.targets g)) ≡ linked_by g s

-- P of each node and schema, and of the node's number, where `size` says how many nodes a schema has
abbrev pub EachStands : (ℕ → Node → Value → Type 0) → (Value → ℕ) → ℕ → List Node → List Value → Type 0
EachStands P size n [] [] = Unit {0}
EachStands P size n [] (v ∷ vs) = ⊥
EachStands P size n (r ∷ rs) [] = ⊥
EachStands P size n (r ∷ rs) (v ∷ vs) = P n r v × EachStands P size (n + size v) rs vs

abbrev pub total : (Value → ℕ) → List Value → ℕ
total size [] = 0
total size (v ∷ vs) = size v + total size vs

-- how many nodes the schema s has, of which k levels are read
unfoldable pub size : ℕ → Value → ℕ
size zero s = 1
size (suc k) s = 1 + total (size k) (linked s)

-- the nodes that the links of a node lead to, of which there are n
abbrev pub next_nodes : Tables → Node → ℕ → List Node
next_nodes tables row n = take n (drop row.links tables.nodes)

-- the node `row` is the schema s, of which k levels are read, and n is its number in loading order
unfoldable pub Stands : ℕ → List ℕ → List Entry → Tables → ℕ → Node → Value → Type 0
Stands zero t es tables n row s = (row.number ≡ n) × (value_in t es row.«entry» ≡ s) × Describes t es tables row null
Stands (suc k) t es tables n row s =
    (row.number ≡ n) × (value_in t es row.«entry» ≡ s) × Describes t es tables row s × EachStands (Stands k t es tables) (size k) (n + 1) (next_nodes tables row (length (linked s))) (linked s)

-- the same of the parts alone: which entries the nodes and their links name is left open
unfoldable pub PartsStand : ℕ → List ℕ → List Entry → Tables → ℕ → Node → Value → Type 0
PartsStand zero t es tables n row s = (row.number ≡ n) × HasParts t es tables row null
PartsStand (suc k) t es tables n row s =
    (row.number ≡ n) × HasParts t es tables row s × EachStands (PartsStand k t es tables) (size k) (n + 1) (next_nodes tables row (length (linked s))) (linked s)

-- the nodes of a group of links are the schemas that the group leads to, with one level less
abbrev pub GroupsStand : Type 0
GroupsStand =
    (k : ℕ) (t : List ℕ) (es : List Entry) (tables : Tables) (n : ℕ) (row : Node) (s : Value) →
    Stands (suc k) t es tables n row s → (g : Group) → (m : ℕ) × EachStands (Stands k t es tables) (size k) m (group_nodes tables.nodes row g) (linked_by g s)

-- the same of the parts alone
abbrev pub GroupPartsStand : Type 0
GroupPartsStand =
    (k : ℕ) (t : List ℕ) (es : List Entry) (tables : Tables) (n : ℕ) (row : Node) (s : Value) →
    PartsStand (suc k) t es tables n row s → (g : Group) → (m : ℕ) × EachStands (PartsStand k t es tables) (size k) m (group_nodes tables.nodes row g) (linked_by g s)
