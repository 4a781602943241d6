-- Lists in parts.
use Rattle.std.proofs.Common.{◌≡◌, ℕ, zero, suc, ◌+◌, ◌-◌, ◌<◌, ◌≤◌, cond, List, [], ◌∷◌, ◌++◌, length, take, drop, Some, sym, refl, ap, ◌∙◌, arith}
use Rattle.fixed.specs.Room.{extended}
use Rattle.std.proofs.lemmas.Bool.{le-leb}
use Rattle.std.proofs.lemmas.Grind.{flat_map-append}
use Rattle.std.proofs.lemmas.List.{drop-append-le, length-drop, length-take-le, take-append-drop, take-append-le}
use Rattle.std.specs.List.{flat_map, range_with_len, slice_get}

range_append : (a n m : ℕ) → range_with_len a (n + m) ≡ range_with_len a n ++ range_with_len (a + n) m
range_append a zero m =
    let n : 0 + m ≡ m = omega arith in
    let z : a ≡ a + 0 = omega arith in
    ap (range_with_len a) n ∙ ap (λ b. range_with_len b m) z
range_append a (suc n) m =
    let s : suc n + m ≡ suc (n + m) = omega arith in
    let z : a + 1 + n ≡ a + suc n = omega arith in
    ap (range_with_len a) s ∙ ap (λ xs. a ∷ xs) (range_append (a + 1) n m ∙ ap (λ b. range_with_len (a + 1) n ++ range_with_len b m) z)

pub range_none : (a : ℕ) → range_with_len a (a - a) ≡ []
range_none a = let z : a - a ≡ 0 = omega arith in ap (range_with_len a) z

-- one number more
pub range_more : (a i : ℕ) → a ≤ i → range_with_len a (i + 1 - a) ≡ range_with_len a (i - a) ++ i ∷ []
range_more a i le =
    let n : i + 1 - a ≡ (i - a) + 1 = omega arith in
    let e : a + (i - a) ≡ i = omega arith in
    ap (range_with_len a) n ∙ (range_append a (i - a) 1 ∙ ap (λ b. range_with_len a (i - a) ++ b ∷ []) e)

-- the numbers before i, i, and those behind it
pub range_at : (a i end : ℕ) → a ≤ i → i < end → range_with_len a (end - a) ≡ range_with_len a (i - a) ++ i ∷ range_with_len (i + 1) (end - (i + 1))
range_at a i end le lt =
    let n : end - a ≡ (i - a) + suc (end - (i + 1)) = omega arith in
    let e : a + (i - a) ≡ i = omega arith in
    ap (range_with_len a) n ∙ (range_append a (i - a) (suc (end - (i + 1))) ∙ ap (λ b. range_with_len a (i - a) ++ range_with_len b (suc (end - (i + 1)))) e)

-- lists of lists, joined at once or one level after another
pub flat_flat : {A B C : Type 0} (f : B → List C) (h : A → List B) (xs : List A) → flat_map f (flat_map h xs) ≡ flat_map (λ x. flat_map f (h x)) xs
flat_flat f h [] = refl
flat_flat f h (x ∷ xs) = flat_map-append f (h x) (flat_map h xs) ∙ ap (λ ys. flat_map f (h x) ++ ys) (flat_flat f h xs)

-- a part of a list that lies within it stays as the list grows
pub within_stays : {X : Type 0} (xs more : List X) (from n : ℕ) → from + n ≤ length xs → take n (drop from (xs ++ more)) ≡ take n (drop from xs)
within_stays xs more from n h =
    let le : from ≤ length xs = omega arith in
    let long : n ≤ length (drop from xs) = omega (arith, length-drop from xs) in
    ap (take n) (drop-append-le from xs more le) ∙ take-append-le n (drop from xs) more long

-- a part of the front of a list is a part of the list
pub take_within : {X : Type 0} (xs : List X) (n from k : ℕ) → from + k ≤ n → n ≤ length xs → take k (drop from (take n xs)) ≡ take k (drop from xs)
take_within xs n from k h le =
    let cut : length (take n xs) ≡ n = length-take-le n xs le in
    let long : from + k ≤ length (take n xs) = omega (arith, cut) in
    sym (ap (λ z. take k (drop from z)) (sym (take-append-drop n xs)) ∙ within_stays (take n xs) (drop n xs) from k long)

pub nth_push : {X : Type 0} (xs : List X) (x : X) → slice_get (xs ++ x ∷ []) (length xs) ≡ Some x
nth_push [] x = refl
nth_push (y ∷ ys) x = nth_push ys x

-- what is pushed stands at the end, where there is room
pub pushed : {X : Type 0} (room : ℕ) (xs ys : List X) (x : X) → ys ≡ extended room xs (x ∷ []) → length xs + 1 ≤ room → ys ≡ xs ++ x ∷ []
pushed room xs ys x h fits = h ∙ ap (λ b. cond b (xs ++ x ∷ []) xs) (le-leb (length xs + 1) room fits)
