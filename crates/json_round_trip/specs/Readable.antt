-- The values that a text can be read as.
use Rattle.std.specs.Prelude.{ℕ, suc, ◌+◌, ◌^◌, ◌<◌, ◌≤◌, max}
use Rattle.json_values.specs.Ordered.{Before}
use Rattle.json_values.specs.Value.{Value, Items, Members, null, bool, int, uint, text, list, map, no_item, item, no_member, member}
use Rattle.json_writer.specs.Back.{Letters, Small}

-- an int within 64 bits, a uint that is too large for an int, texts of characters, members in ascending order of their keys
abbrev mutual
  pub Readable : Value → Type 0
  Readable null = Unit {0}
  Readable (bool b) = Unit {0}
  Readable (int z) = Small z
  Readable (uint n) = (2 ^ 63 ≤ n) × (n < 2 ^ 64)
  Readable (text s) = Letters s
  Readable (list vs) = ReadableItems vs
  Readable (map ms) = ReadableMembers ms

  pub ReadableItems : Items → Type 0
  ReadableItems no_item = Unit {0}
  ReadableItems (item v vs) = Readable v × ReadableItems vs

  pub ReadableMembers : Members → Type 0
  ReadableMembers no_member = Unit {0}
  ReadableMembers (member k v ms) = (Letters k × Before k ms) × (Readable v × ReadableMembers ms)

-- how deep lists and maps nest
abbrev mutual
  pub nesting : Value → ℕ
  nesting null = 0
  nesting (bool b) = 0
  nesting (int z) = 0
  nesting (uint n) = 0
  nesting (text s) = 0
  nesting (list vs) = suc (items_nesting vs)
  nesting (map ms) = suc (members_nesting ms)

  pub items_nesting : Items → ℕ
  items_nesting no_item = 0
  items_nesting (item v vs) = max (nesting v) (items_nesting vs)

  pub members_nesting : Members → ℕ
  members_nesting no_member = 0
  members_nesting (member k v ms) = max (nesting v) (members_nesting ms)

-- the number of values in a value, itself among them
abbrev mutual
  pub count : Value → ℕ
  count null = 1
  count (bool b) = 1
  count (int z) = 1
  count (uint n) = 1
  count (text s) = 1
  count (list vs) = suc (items_count vs)
  count (map ms) = suc (members_count ms)

  pub items_count : Items → ℕ
  items_count no_item = 0
  items_count (item v vs) = count v + items_count vs

  pub members_count : Members → ℕ
  members_count no_member = 0
  members_count (member k v ms) = count v + members_count ms
