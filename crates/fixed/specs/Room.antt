-- What fits into a fixed room, and how it is answered.
use Rattle.std.specs.Prelude.{◌≡◌, ℕ, ◌+◌, ◌<◌, ◌≤◌, Bool, cond, List, ◌++◌, length, Ok, Err, Option, Result, MatchOption, MatchResult, nat_le, slice_index_or}
use Rattle.fixed.specs.declared.refusal.Full.{Full}
use Rattle.fixed.specs.declared.refusal.Outside.{Outside}

-- whether `more` fits behind `xs` where there is room for `room` elements
abbrev pub fits : {X : Type 0} → ℕ → List X → List X → Bool
fits room xs more = nat_le (length xs + length more) room

-- `xs` with `more` behind, or `xs` alone where that does not fit
abbrev pub extended : {X : Type 0} → ℕ → List X → List X → List X
extended room xs more = cond (fits room xs more) (xs ++ more) xs

-- `Ok(())` where something fits, and else `Err(Full)`
abbrev pub granted : Bool → Result (Unit {0}) Full
granted b = cond b (Ok tt) (Err (record {}))

-- the same by the answer: `more` is behind `xs` now, or does not fit and nothing has changed
abbrev pub Extends : {X : Type 0} → ℕ → List X → List X → Result (Unit {0}) Full → List X → Type 0
Extends room xs more r after = MatchResult r (λ _. (length after ≤ room) × (length after ≡ length xs + length more) × (after ≡ xs ++ more)) (λ _. (room < length xs + length more) × (after ≡ xs))

-- `Ok(())` where an index is inside, and else `Err(Outside)`
abbrev pub inside : Bool → Result (Unit {0}) Outside
inside b = cond b (Ok tt) (Err (record {}))

-- what stands at an index, by the answer: the element, or none that far
abbrev pub Reads : {X : Type 0} → List X → ℕ → Option X → Type 0
Reads {X} xs i r = MatchOption r (length xs ≤ i) (λ x. (i < length xs) × ((d : X) → x ≡ slice_index_or xs i d))
