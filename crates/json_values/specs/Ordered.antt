-- Values whose maps have their members in ascending order of the keys, at every depth.
use Rattle.std.specs.Prelude.{◌≡◌, ℕ, List}
use Rattle.std.specs.declared.cmp.Ordering.TheVariants.{Less}
use Rattle.json_values.specs.Value.{Value, Items, Members, null, bool, int, uint, text, list, map, no_item, item, no_member, member}
use Rattle.order.specs.Bytes.{compare_bytes}

-- the key k comes before those of all the members
abbrev pub Before : List ℕ → Members → Type 0
Before k no_member = Unit {0}
Before k (member j v ms) = (compare_bytes k j ≡ Less) × Before k ms

-- the keys of each map ascend, so that none stands twice
abbrev mutual
  pub Ordered : Value → Type 0
  Ordered null = Unit {0}
  Ordered (bool b) = Unit {0}
  Ordered (int z) = Unit {0}
  Ordered (uint n) = Unit {0}
  Ordered (text s) = Unit {0}
  Ordered (list vs) = OrderedItems vs
  Ordered (map ms) = OrderedMembers ms

  pub OrderedItems : Items → Type 0
  OrderedItems no_item = Unit {0}
  OrderedItems (item v vs) = Ordered v × OrderedItems vs

  pub OrderedMembers : Members → Type 0
  OrderedMembers no_member = Unit {0}
  OrderedMembers (member k v ms) = Before k ms × (Ordered v × OrderedMembers ms)
