-- The bytes of images are bytes, and the first of them is a value's command.
use Rattle.std.proofs.Common.{◌≡◌, ℕ, ◌<◌, true, false, eqb, ltb, List, [], ◌∷◌, ◌++◌, length, refl, arith, w64, of_z}
use Rattle.image.specs.Decode.{octets}
use Rattle.image.specs.Image.{image, items_image, members_image, old_image, scalar_image, scope_image}
use Rattle.image.specs.Typed.{Items, Members, Octets, OldSelf, Proper, ProperItems, ProperMembers, ProperOld, ProperScalar, ProperScope, Scalar, Scope, Typed, absent, bool, bytes, duration, empty, int, item, items_count, list, map, member, members_count, no_items, no_members, null, plain, scalar, some, text, uint}
use Rattle.std.proofs.ByRecursion.{All-append}
use Rattle.std.proofs.lemmas.Bool.{and_from, and_parts, lt-ltb, ltb-true}
use Rattle.writer.specs.Written.{be4, be8}

be4-octets : (n : ℕ) → Octets (be4 n)
be4-octets n = (omega arith, (omega arith, (omega arith, (omega arith, tt))))

be8-octets : (n : ℕ) → Octets (be8 n)
be8-octets n = (omega arith, (omega arith, (omega arith, (omega arith, (omega arith, (omega arith, (omega arith, (omega arith, tt))))))))

two : (s t : List ℕ) → Octets s → Octets t → Octets (s ++ t)
two s t p q = All-append (λ b. b < 256) s t p q

scalar-octets : (s : Scalar) → ProperScalar s → Octets (scalar_image s)
scalar-octets null p = (omega arith, tt)
scalar-octets (bool false) p = (omega arith, tt)
scalar-octets (bool true) p = (omega arith, tt)
scalar-octets (int z) p = (omega arith, be8-octets (of_z w64 z))
scalar-octets (uint n) p = (omega arith, be8-octets n)
scalar-octets (text s) p = (omega arith, two (be4 (length s)) s (be4-octets (length s)) p.octets)
scalar-octets (bytes s) p = (omega arith, two (be4 (length s)) s (be4-octets (length s)) p.octets)
scalar-octets (duration z) p = (omega arith, be8-octets (of_z w64 z))

mutual
  unfolding image

  pub image_octets : (v : Typed) → Proper v → Octets (image v)
  image_octets (scalar s) p = scalar-octets s p
  image_octets (list vs) p = (omega arith, two (be4 (items_count vs)) (items_image vs) (be4-octets (items_count vs)) (items_octets vs p.1))
  image_octets (map ms) p = (omega arith, two (be4 (members_count ms)) (members_image ms) (be4-octets (members_count ms)) (members-octets ms p.1.1))

  items_octets : (vs : Items) → ProperItems vs → Octets (items_image vs)
  items_octets no_items p = tt
  items_octets (item v vs) p = two (image v) (items_image vs) (image_octets v p.0) (items_octets vs p.1)

  members-octets : (ms : Members) → ProperMembers ms → Octets (members_image ms)
  members-octets no_members p = tt
  members-octets (member k v ms) p = two (scalar_image (text k)) (image v ++ members_image ms) (scalar-octets (text k) p.0) (two (image v) (members_image ms) (image_octets v p.1.0) (members-octets ms p.1.1))

old_octets : (o : OldSelf) → ProperOld o → Octets (old_image o)
old_octets absent p = tt
old_octets (plain v) p = (omega arith, image_octets v p)
old_octets empty p = (omega arith, (omega arith, tt))
old_octets (some v) p = (omega arith, (omega arith, image_octets v p))

pub scope-octets : (s : Scope) → ProperScope s → Octets (scope_image s)
scope-octets s p = (omega arith, two (image s.self) (old_image s.old) (image_octets s.self p.0) (old_octets s.old p.1))

-- the test and the fact
pub tested : (s : List ℕ) → Octets s → octets s ≡ true
tested [] o = refl
tested (b ∷ s) o = and_from (ltb b 256) (octets s) (lt-ltb b 256 o.0) (tested s o.1)

pub untested : (s : List ℕ) → octets s ≡ true → Octets s
untested [] e = tt
untested (b ∷ s) e = let p = and_parts (ltb b 256) (octets s) e in (ltb-true b 256 p.0, untested s p.1)

-- no image begins as an optional does
pub record BeginsValue (s : List ℕ) : Type 0 where
  pub byte : ℕ
  pub behind : List ℕ
  pub bytes_are : s ≡ byte ∷ behind
  pub no_empty : eqb byte 0x05 ≡ false
  pub no_present : eqb byte 0x0D ≡ false

begins : (b : ℕ) (s : List ℕ) → eqb b 0x05 ≡ false → eqb b 0x0D ≡ false → BeginsValue (b ∷ s)
begins b s p q = record { byte = b; behind = s; bytes_are = refl; no_empty = p; no_present = q }

pub image_begins : (v : Typed) → BeginsValue (image v)
unfolding image
image_begins (scalar null) = begins 0x00 [] refl refl
image_begins (scalar (bool false)) = begins 0x01 [] refl refl
image_begins (scalar (bool true)) = begins 0x02 [] refl refl
image_begins (scalar (int z)) = begins 0x03 (be8 (of_z w64 z)) refl refl
image_begins (scalar (uint n)) = begins 0x04 (be8 n) refl refl
image_begins (scalar (text s)) = begins 0x06 (be4 (length s) ++ s) refl refl
image_begins (scalar (bytes s)) = begins 0x07 (be4 (length s) ++ s) refl refl
image_begins (scalar (duration z)) = begins 0x09 (be8 (of_z w64 z)) refl refl
image_begins (list vs) = begins 0x0A (be4 (items_count vs) ++ items_image vs) refl refl
image_begins (map ms) = begins 0x0B (be4 (members_count ms) ++ members_image ms) refl refl
