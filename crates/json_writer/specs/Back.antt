-- What is written is JSON, and of the value that it was written for.
use Rattle.std.specs.Prelude.{◌≡◌, ℕ, suc, ◌^◌, ◌<◌, Bool, true, false, ◌||◌, List, [], ◌∷◌, ◌++◌, ℤ, pos, negsuc, ◌==◌, nat_lt}
use Rattle.json_values.specs.Value.{Value, Items, Members, null, bool, int, uint, text, list, map, no_item, item, no_member, member}
use Rattle.json_scanner.specs.Grammar.{Raw, Text, Tree, Trees, nil, snoc}
use Rattle.json_scanner.specs.Grammar as written
use Rattle.json_writer.specs.Compact.{compact}

-- a byte that a string escapes
abbrev pub marked : ℕ → Bool
marked b = nat_lt b 32 || (b == 34 || b == 92)

-- a character: one that stands for itself in UTF-8, or one that is escaped
pub data Letter : List ℕ → Type 0 where
  raw : {w : List ℕ} → Raw w → Letter w
  mark : (b : ℕ) → marked b ≡ true → Letter (b ∷ [])

-- a text of characters
pub data Letters : List ℕ → Type 0 where
  none : Letters []
  more : {s w : List ℕ} → Letters s → Letter w → Letters (s ++ w)

abbrev pub Small : ℤ → Type 0
Small (pos n) = n < 2 ^ 63
Small (negsuc n) = n < 2 ^ 63

-- integers within 64 bits, and texts of characters
abbrev mutual
  pub Writable : Value → Type 0
  Writable null = Unit {0}
  Writable (bool b) = Unit {0}
  Writable (int z) = Small z
  Writable (uint n) = n < 2 ^ 64
  Writable (text s) = Letters s
  Writable (list vs) = WritableItems vs
  Writable (map ms) = WritableMembers ms

  pub WritableItems : Items → Type 0
  WritableItems no_item = Unit {0}
  WritableItems (item v vs) = Writable v × WritableItems vs

  pub WritableMembers : Members → Type 0
  WritableMembers no_member = Unit {0}
  WritableMembers (member k v ms) = Letters k × (Writable v × WritableMembers ms)

-- the value as it is written
abbrev pub number_tree : ℤ → Tree
number_tree (pos n) = written.number false n
number_tree (negsuc n) = written.number true (suc n)

abbrev mutual
  pub tree_of : Value → Tree
  tree_of null = written.null
  tree_of (bool b) = written.bool b
  tree_of (int z) = number_tree z
  tree_of (uint n) = written.number false n
  tree_of (text s) = written.text s
  tree_of (list vs) = written.list (trees_from nil vs)
  tree_of (map ms) = written.object (members_from written.none ms)

  pub trees_from : Trees → Items → Trees
  trees_from ts no_item = ts
  trees_from ts (item v vs) = trees_from (snoc ts (tree_of v)) vs

  pub members_from : written.Members → Members → written.Members
  members_from ms no_member = ms
  members_from ms (member k v rest) = members_from (written.with ms k (tree_of v)) rest

-- what is written of a value is a JSON text for it
abbrev pub WritesJson : Type 0
WritesJson = (v : Value) → Writable v → Text (tree_of v) (compact v)
