-- Laws of a list with a fixed room.
use Rattle.std.proofs.Common.{◌≡◌, ℕ, ◌+◌, ◌-◌, ◌<◌, ◌≤◌, List, [], ◌∷◌, ◌++◌, length, Some, None, Option, sym, refl, ap, ◌∙◌, arith, MatchOption}
use Rattle.std.specs.Prelude.{vec_len}
use Rattle.std.proofs.lemmas.List.{length_push, get_or_push}
use Rattle.std.proofs.lemmas.Option.{slice_get-get_or, slice_get_past}
use Rattle.std.specs.Option.{option_to_list}
use Rattle.fixed.specs.Listed.{last}
use Rattle.fixed.specs.declared.list.FixedList.TheInside.{Inside}

-- a list holds at most as many elements as it has room for
pub listed_few : {T : Type 0} {N : ℕ} (l : Inside T N) → vec_len l.items ≤ N → length l.items.items ≤ N
listed_few l few = omega (arith, few, l.items.ok.0)

-- what was put at the end is the last
pub last_push : {T : Type 0} (xs : List T) (x : T) → last (xs ++ x ∷ []) ≡ Some x
last_push xs x =
    let n : length (xs ++ x ∷ []) ≡ length xs + 1 = length_push xs x in
    let k : length (xs ++ x ∷ []) - 1 < length (xs ++ x ∷ []) = omega arith in
    let e : length xs ≡ length (xs ++ x ∷ []) - 1 = omega arith in
    slice_get-get_or (xs ++ x ∷ []) (length (xs ++ x ∷ []) - 1) x k ∙ ap Some (get_or_push xs x x (length (xs ++ x ∷ []) - 1) e)

-- what was taken from the end was the last
pub last_taken : {T : Type 0} (xs ys : List T) (r : Option T) → xs ≡ ys ++ option_to_list r → (r ≡ None → length xs ≡ 0) → r ≡ last xs
last_taken xs ys None e h = sym (slice_get_past xs (length xs - 1) (omega (arith, h refl)))
last_taken xs ys (Some x) e h = sym (ap last e ∙ last_push ys x)

-- and by the answer
pub taken_cases : {T : Type 0} (xs ys : List T) (r : Option T) → xs ≡ ys ++ option_to_list r → (r ≡ None → length xs ≡ 0) → MatchOption r (length xs ≡ 0) (λ x. xs ≡ ys ++ x ∷ [])
taken_cases xs ys None e h = h refl
taken_cases xs ys (Some x) e h = e
