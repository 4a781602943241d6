-- The nodes of a schema's table.
use Rattle.std.specs.Prelude.{ℕ, ◌+◌, false, List, take, drop, None, codes, sum_by}
use Rattle.json_values.specs.declared.table.Entry.{Entry}
use Rattle.json_values.specs.declared.table.Span.{Span}
use Rattle.schema.specs.Entries.{flag_at, format_at, is_map_at, nowhere, part_at, targets_at}
use Rattle.schema.specs.Parts.{order}
use Rattle.schema.specs.declared.format.SchemaFormat.TheVariants as format
use Rattle.schema.specs.declared.group.Group.{Group}
use Rattle.schema.specs.declared.group.Group.TheVariants.{Properties, Items, Additional, AllOf, OneOf, AnyOf}
use Rattle.schema_tree.specs.declared.node.Node.{Node}
use Rattle.schema_tree.specs.declared.targets.Targets.{Targets}

-- the entries that the links of a group lead to
abbrev pub target : Targets → Group → Span
target x Properties = x.properties
target x Items = x.items
target x Additional = x.additional
target x AllOf = x.all_of
target x OneOf = x.one_of
target x AnyOf = x.any_of

-- how many groups come before it in their order
abbrev pub place : Group → ℕ
place Properties = 0
place Items = 1
place Additional = 2
place AllOf = 3
place OneOf = 4
place AnyOf = 5

-- how many links come before those of the group g
abbrev pub links_before : Targets → Group → ℕ
links_before x g = sum_by (λ h. (target x h).count) (take (place g) order)

-- the nodes that the links of a group lead to
abbrev pub group_nodes : List Node → Node → Group → List Node
group_nodes nodes row g = take (target row.targets g).count (drop (row.links + links_before row.targets g) nodes)

-- those of the schema i
abbrev pub read_targets : List ℕ → List Entry → ℕ → Targets
read_targets t es i = record {
  properties = targets_at t es Properties i;
  items = targets_at t es Items i;
  additional = targets_at t es Additional i;
  all_of = targets_at t es AllOf i;
  one_of = targets_at t es OneOf i;
  any_of = targets_at t es AnyOf i;
}

abbrev pub no_targets : Targets
no_targets = record { properties = nowhere; items = nowhere; additional = nowhere; all_of = nowhere; one_of = nowhere; any_of = nowhere }

-- the node of the schema i
abbrev pub read_node : List ℕ → List Entry → ℕ → ℕ → Span → ℕ → Node
read_node t es i number rules links = record {
  number = number;
  «entry» = i;
  targets = read_targets t es i;
  links = links;
  rules = rules;
  is_map = is_map_at t es i;
  nullable = flag_at t es (codes "nullable") i;
  preserve_unknown_fields = flag_at t es (codes "x-kubernetes-preserve-unknown-fields") i;
  embedded_resource = flag_at t es (codes "x-kubernetes-embedded-resource") i;
  format = format_at t es i;
  default = part_at t es (codes "default") i;
}

-- a node in which nothing is read
abbrev pub unread_node : ℕ → ℕ → Node
unread_node i number = record {
  number = number;
  «entry» = i;
  targets = no_targets;
  links = 0;
  rules = nowhere;
  is_map = false;
  nullable = false;
  preserve_unknown_fields = false;
  embedded_resource = false;
  format = format.None;
  default = None;
}
