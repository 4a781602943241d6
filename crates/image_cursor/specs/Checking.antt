-- What the check of maps on the way over values asks; no public contract names these.
use Rattle.std.specs.Prelude.{ℕ, zero, suc, Bool, true, false, ◌&&◌, List, Some, None, Option}
use Rattle.image.specs.Decode.{Head, above, items, lone, members}
use Rattle.image_cursor.specs.Walking.{key_seen, skipped}

-- there is an answer, and it passes
abbrev pub holds : {A : Type 0} → Option A → (A → Bool) → Bool
holds None f = false
holds (Some x) f = f x

-- n members stand at the front, each key a text above the one before it
unfoldable pub ordered : ℕ → Option (List ℕ) → List ℕ → Bool
ordered zero before s = true
ordered (suc n) before s = holds (key_seen s) (λ k. above before k.key && holds (skipped k.rest) (ordered n (Some k.key)))

-- behind a map's command its members stand in order
abbrev pub keyed : Head → List ℕ → Bool
keyed (lone x) s = true
keyed (items n) s = true
keyed (members n) s = ordered n None s
