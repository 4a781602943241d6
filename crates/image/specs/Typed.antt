-- Typed values, and which of them have an image.
use Rattle.std.specs.Prelude.{◌≡◌, ℕ, ◌+◌, ◌^◌, ◌<◌, Bool, List, length, ℤ, FitsSigned}
use Rattle.std.specs.declared.cmp.Ordering.TheVariants.{Less}
use Rattle.std.specs.Int.{w64}
use Rattle.order.specs.Bytes.{compare_bytes}
use Rattle.std.specs.List.{AllByRecursion}

-- a value that holds no other; a text is its bytes, and a duration counts nanoseconds
pub data Scalar : Type 0 where
  null : Scalar
  bool : Bool → Scalar
  int : ℤ → Scalar
  uint : ℕ → Scalar
  text : List ℕ → Scalar
  bytes : List ℕ → Scalar
  duration : ℤ → Scalar

-- a value: a scalar, a list of values, or a map from keys to values
mutual
  pub data Typed : Type 0 where
    scalar : Scalar → Typed
    list : Items → Typed
    map : Members → Typed

  pub data Items : Type 0 where
    no_items : Items
    item : Typed → Items → Items

  pub data Members : Type 0 where
    no_members : Members
    member : List ℕ → Typed → Members → Members

-- how many values a list has
abbrev pub items_count : Items → ℕ
items_count no_items = 0
items_count (item v vs) = items_count vs + 1

-- how many members a map has
abbrev pub members_count : Members → ℕ
members_count no_members = 0
members_count (member k v ms) = members_count ms + 1

-- every byte is below 256
abbrev pub Octets : List ℕ → Type 0
Octets s = AllByRecursion (λ b. b < 256) s

-- bytes whose length four bytes hold
pub record Short (s : List ℕ) : Type 0 where
  pub small : length s < 2 ^ 32
  pub octets : Octets s

-- what has an image: numbers within 64 bits, and short bytes
abbrev pub ProperScalar : Scalar → Type 0
ProperScalar null = Unit {0}
ProperScalar (bool b) = Unit {0}
ProperScalar (int z) = FitsSigned w64 z
ProperScalar (uint n) = n < 2 ^ 64
ProperScalar (text s) = Short s
ProperScalar (bytes s) = Short s
ProperScalar (duration z) = FitsSigned w64 z

-- the first key, if any, is above `k` in byte order
abbrev pub Above : List ℕ → Members → Type 0
Above k no_members = Unit {0}
Above k (member j v ms) = compare_bytes k j ≡ Less

-- each key is above the one before it
abbrev pub Ascending : Members → Type 0
Ascending no_members = Unit {0}
Ascending (member k v ms) = Above k ms × Ascending ms

-- the same of every value within: counts below 2^32, keys short and strictly ascending
abbrev mutual
  pub Proper : Typed → Type 0
  Proper (scalar s) = ProperScalar s
  Proper (list vs) = (items_count vs < 2 ^ 32) × ProperItems vs
  Proper (map ms) = (members_count ms < 2 ^ 32) × (Ascending ms × ProperMembers ms)

  pub ProperItems : Items → Type 0
  ProperItems no_items = Unit {0}
  ProperItems (item v vs) = Proper v × ProperItems vs

  pub ProperMembers : Members → Type 0
  ProperMembers no_members = Unit {0}
  ProperMembers (member k v ms) = Short k × (Proper v × ProperMembers ms)

-- what a rule sees as oldSelf: nothing, a value, or an optional without or with one
pub data OldSelf : Type 0 where
  absent : OldSelf
  plain : Typed → OldSelf
  empty : OldSelf
  some : Typed → OldSelf

-- what a rule sees
pub record Scope : Type 0 where
  pub self : Typed
  pub old : OldSelf

-- the value of oldSelf, if there is one, has an image
abbrev pub ProperOld : OldSelf → Type 0
ProperOld absent = Unit {0}
ProperOld (plain v) = Proper v
ProperOld empty = Unit {0}
ProperOld (some v) = Proper v

-- both parts of a scope have an image
abbrev pub ProperScope : Scope → Type 0
ProperScope s = Proper s.self × ProperOld s.old
