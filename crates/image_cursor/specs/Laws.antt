-- What a cursor reads from an image.
use Rattle.std.specs.Prelude.{◌≡◌, ℕ, ◌+◌, cond, List, [], ◌++◌, length, drop, Some, None, Option, MatchOption}
use Rattle.image.specs.Decode.{head_of, seen}
use Rattle.image.specs.Image.{image, items_image, members_image}
use Rattle.image.specs.Typed.{Members, Proper, Typed, list, map, member, no_members, scalar}
use Rattle.image_cursor.specs.Walking.{left_off, skipped, sought}
use Rattle.order.specs.Bytes.{compare_bytes}
use Rattle.std.specs.Ordering.{is_eq}

-- the images that stand behind a value's command
abbrev pub content : Typed → List ℕ
content (scalar s) = []
content (list vs) = items_image vs
content (map ms) = members_image ms

-- reading gives a value's command with its operand, and leaves what the value holds
abbrev pub ReadsImages : Type 0
ReadsImages = (v : Typed) (r : List ℕ) → Proper v → seen (image v ++ r) ≡ Some (record { head = head_of v; rest = content v ++ r })

-- skipping leaves off just behind a value
pub record SkipsImages : Type 0 where
  pub skips : (v : Typed) (r : List ℕ) → Proper v → skipped (image v ++ r) ≡ Some r
  pub ends : (s : List ℕ) (at : ℕ) (v : Typed) (r : List ℕ) → Proper v → drop at s ≡ image v ++ r → left_off s at (skipped (drop at s)) ≡ at + length (image v)

-- the value that a key has in a map
abbrev pub value_of : List ℕ → Members → Option Typed
value_of key no_members = None
value_of key (member k v ms) = cond (is_eq (compare_bytes k key)) (Some v) (value_of key ms)

-- an answer of the look-up: none, or bytes that begin with the value's image
abbrev pub Finds : Option Typed → Option (List ℕ) → Type 0
Finds o answer = MatchOption o (answer ≡ None) (λ v. (rest : List ℕ) × (answer ≡ Some (image v ++ rest)))

-- the look-up finds a key's value, and says that there is none exactly where the map has no such key
abbrev pub FindsMembers : Type 0
FindsMembers = (ms : Members) (key r : List ℕ) → Proper (map ms) → Finds (value_of key ms) (sought key (image (map ms) ++ r))
