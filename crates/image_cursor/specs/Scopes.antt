-- What the places of a scope's parts say.
use Rattle.std.specs.Prelude.{ℕ, List, drop, Some, Option}
use Rattle.image.specs.Decode.{decoded, scope, then}
use Rattle.image.specs.Typed.{OldSelf, Scope, Typed, absent, empty, plain, some}
use Rattle.image_cursor.specs.declared.scope.OldPlace.{OldPlace}
use Rattle.image_cursor.specs.declared.scope.OldPlace.TheVariants.{Absent, Plain, Empty, Present}
use Rattle.image_cursor.specs.declared.scope.ScopeParts.{ScopeParts}
use Rattle.std.specs.Option.{option_map}

-- the value whose image begins at a position
abbrev pub value_at : List ℕ → ℕ → Option Typed
value_at s i = option_map (λ d. d.value) (decoded (drop i s))

-- oldSelf, by where it stands
abbrev pub old_at : List ℕ → OldPlace → Option OldSelf
old_at s Absent = Some absent
old_at s (Plain i) = option_map plain (value_at s i)
old_at s Empty = Some empty
old_at s (Present i) = option_map some (value_at s i)

-- the scope whose parts stand at these places
abbrev pub scope_at : List ℕ → ScopeParts → Option Scope
scope_at s p = then (value_at s p.own) (λ v. option_map (scope v) (old_at s p.old))
