-- The image of a value: commands of one byte with big-endian operands.
use Rattle.std.specs.Prelude.{ℕ, true, false, List, [], ◌∷◌, ◌++◌, length}
use Rattle.std.specs.Int.{w64}
use Rattle.std.proofs.Common.{of_z}
use Rattle.image.specs.Typed.{Scalar, null, bool, int, uint, text, bytes, duration, Typed, Items, Members, scalar, list, map, no_items, item, no_members, member, items_count, members_count, OldSelf, absent, plain, empty, some, Scope}
use Rattle.writer.specs.Written.{be4, be8}

-- a command with bytes behind it, after their length
abbrev pub sized : ℕ → List ℕ → List ℕ
sized b s = b ∷ (be4 (length s) ++ s)

-- a signed number is written in two's complement, and a text after its length
abbrev pub scalar_image : Scalar → List ℕ
scalar_image null = 0x00 ∷ []
scalar_image (bool false) = 0x01 ∷ []
scalar_image (bool true) = 0x02 ∷ []
scalar_image (int z) = 0x03 ∷ be8 (of_z w64 z)
scalar_image (uint n) = 0x04 ∷ be8 n
scalar_image (text s) = sized 0x06 s
scalar_image (bytes s) = sized 0x07 s
scalar_image (duration z) = 0x09 ∷ be8 (of_z w64 z)

-- a list is its count and its values, a map its count and for each member the key and the value
unfoldable mutual
  pub image : Typed → List ℕ
  image (scalar s) = scalar_image s
  image (list vs) = 0x0A ∷ (be4 (items_count vs) ++ items_image vs)
  image (map ms) = 0x0B ∷ (be4 (members_count ms) ++ members_image ms)

  pub items_image : Items → List ℕ
  items_image no_items = []
  items_image (item v vs) = image v ++ items_image vs

  pub members_image : Members → List ℕ
  members_image no_members = []
  members_image (member k v ms) = scalar_image (text k) ++ (image v ++ members_image ms)

-- oldSelf behind its command; an optional is empty or marked
abbrev pub old_image : OldSelf → List ℕ
old_image absent = []
old_image (plain v) = 0x11 ∷ image v
old_image empty = 0x11 ∷ (0x05 ∷ [])
old_image (some v) = 0x11 ∷ (0x0D ∷ image v)

-- self behind its command, and then oldSelf
abbrev pub scope_image : Scope → List ℕ
scope_image s = 0x10 ∷ (image s.self ++ old_image s.old)
