-- What is left of an image.
use Rattle.std.specs.Prelude.{◌≡◌, ℕ, ◌+◌, List, length, Option}
use Rattle.image_cursor.specs.declared.tail.Tail.{Tail}
use Rattle.std.specs.Option.{option_map}

-- the position at which the bytes end
abbrev pub end_of : Tail → ℕ
end_of t = t.place + length t.rest.now

-- both are left of the same bytes
abbrev pub SameEnd : Tail → Tail → Type 0
SameEnd s t = end_of s ≡ end_of t

-- what was read, and the bytes behind it
abbrev pub left : {A : Type 0} → A × Tail → A × List ℕ
left r = (r.0, r.1.rest.now)

-- the bytes that are left, if the answer is not none
abbrev pub bytes_left : Option Tail → Option (List ℕ)
bytes_left o = option_map (λ t. t.rest.now) o
