-- What a member that was read says.
use Rattle.std.specs.Prelude.{ℕ, cond, List, None, Option}
use Rattle.image.specs.Decode.{above, then}
use Rattle.image_cursor.specs.Walking.{Keyed, key_seen, skipped}
use Rattle.image_cursor.specs.declared.tail.Tail.{Tail}
use Rattle.std.specs.Borrow.{Bor}
use Rattle.std.specs.Option.{option_map}

-- a key, and the bytes behind it
abbrev pub keyed_by : Bor (List ℕ) × Tail → Keyed
keyed_by r = record { key = r.0.now; rest = r.1.rest.now }

-- the key of the member at the front, if it is above the one before it, and the bytes behind its value
abbrev pub member_above : Option (List ℕ) → List ℕ → Option Keyed
member_above before s = then (key_seen s) (λ k. cond (above before k.key) (option_map (λ r. record { key = k.key; rest = r }) (skipped k.rest)) None)
