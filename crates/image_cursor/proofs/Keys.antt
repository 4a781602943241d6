-- Keys and members, one by one.
use Rattle.std.proofs.Common.{◌≡◌, ℕ, zero, suc, ◌-◌, ◌<◌, Bool, true, false, cond, ◌&&◌, List, Some, None, Option, Ordering, Less, Greater, eqb, ltb, [], ◌∷◌, refl, sym, ap, true≢false, ◌∙◌, arith}
use lib.Pointwise.{pointwise}
use Rattle.image.specs.Decode.{above, then}
use Rattle.image_cursor.specs.Checking.{holds, ordered}
use Rattle.image_cursor.specs.Members.{member_above}
use Rattle.image_cursor.specs.Walking.{Keyed, key_seen, looked_up, skipped}
use Rattle.order.specs.Bytes.{compare_bytes}
use Rattle.std.proofs.lemmas.Bool.Decides.{nat_tests}
use Rattle.std.specs.Option.{option_map}
use Rattle.std.specs.Ordering.{is_eq}

-- ---- the same bytes

first_less : (x y : ℕ) → ltb x y ≡ true → eqb x y ≡ false
first_less x y h = grind (arith, nat_tests)

one_byte : (less same t : Bool) (o : Ordering) → (less ≡ true → same ≡ false) → t ≡ is_eq o → (same && t) ≡ is_eq (cond less Less (cond same o Greater))
one_byte true true t o h e = absurd (true≢false (h refl))
one_byte true false t o h e = refl
one_byte false true t o h e = e
one_byte false false t o h e = refl

-- two texts are the same exactly where they compare as Equal
pub same_test : (xs ys : List ℕ) → pointwise eqb xs ys ≡ is_eq (compare_bytes xs ys)
unfolding compare_bytes
same_test [] [] = refl
same_test [] (y ∷ ys) = refl
same_test (x ∷ xs) [] = refl
same_test (x ∷ xs) (y ∷ ys) =
    one_byte (ltb x y) (eqb x y) (pointwise eqb xs ys) (compare_bytes xs ys) (first_less x y) (same_test xs ys)

-- ---- one member of a look-up

pub look_none : (left : ℕ) (key s : List ℕ) → 0 < left → None ≡ key_seen s → looked_up left key s ≡ None
unfolding looked_up
look_none zero key s h e = absurd (let z : ⊥ = omega arith in z)
look_none (suc n) key s h e = ap (λ o. then o (λ k. cond (is_eq (compare_bytes k.key key)) (Some k.rest) (then (skipped k.rest) (looked_up n key)))) (sym e)

pub look_more : (left : ℕ) (key s : List ℕ) (k : Keyed) → 0 < left → Some k ≡ key_seen s → looked_up left key s ≡ cond (is_eq (compare_bytes k.key key)) (Some k.rest) (then (skipped k.rest) (looked_up (left - 1) key))
unfolding looked_up
look_more zero key s k h e = absurd (let z : ⊥ = omega arith in z)
look_more (suc n) key s k h e =
    let m : n ≡ suc n - 1 = omega arith in
    ap (λ o. then o (λ k. cond (is_eq (compare_bytes k.key key)) (Some k.rest) (then (skipped k.rest) (looked_up n key)))) (sym e)
    ∙ ap (λ j. cond (is_eq (compare_bytes k.key key)) (Some k.rest) (then (skipped k.rest) (looked_up j key))) m

pub look_done : (key s : List ℕ) → looked_up 0 key s ≡ None
unfolding looked_up
look_done key s = refl

-- ---- one member of the check

one_member : (n : ℕ) (k : Keyed) (t : Bool) (o : Option (List ℕ)) → (t && holds o (ordered n (Some k.key))) ≡ holds {A = Keyed} (cond t (option_map (λ r. record { key = k.key; rest = r }) o) None) (λ m. ordered n (Some m.key) m.rest)
one_member n k true None = refl
one_member n k true (Some r) = refl
one_member n k false o = refl

by_member : (n : ℕ) (before : Option (List ℕ)) (o : Option Keyed) → holds o (λ k. above before k.key && holds (skipped k.rest) (ordered n (Some k.key))) ≡ holds {A = Keyed} (then o (λ k. cond (above before k.key) (option_map (λ r. record { key = k.key; rest = r }) (skipped k.rest)) None)) (λ m. ordered n (Some m.key) m.rest)
by_member n before None = refl
by_member n before (Some k) = one_member n k (above before k.key) (skipped k.rest)

order_turn : (n : ℕ) (before : Option (List ℕ)) (s : List ℕ) → ordered (suc n) before s ≡ holds (member_above before s) (λ m. ordered n (Some m.key) m.rest)
unfolding ordered
order_turn n before s = by_member n before (key_seen s)

pub order_none : (left : ℕ) (before : Option (List ℕ)) (s : List ℕ) → 0 < left → None ≡ member_above before s → ordered left before s ≡ false
order_none zero before s h e = absurd (let z : ⊥ = omega arith in z)
order_none (suc n) before s h e = order_turn n before s ∙ ap (λ o. holds o (λ m. ordered n (Some m.key) m.rest)) (sym e)

pub order_more : (left : ℕ) (before : Option (List ℕ)) (s : List ℕ) (m : Keyed) → 0 < left → Some m ≡ member_above before s → ordered left before s ≡ ordered (left - 1) (Some m.key) m.rest
order_more zero before s m h e = absurd (let z : ⊥ = omega arith in z)
order_more (suc n) before s m h e =
    let less : n ≡ suc n - 1 = omega arith in
    order_turn n before s ∙ ap (λ o. holds o (λ m. ordered n (Some m.key) m.rest)) (sym e) ∙ ap (λ j. ordered j (Some m.key) m.rest) less

pub order_done : (before : Option (List ℕ)) (s : List ℕ) → ordered 0 before s ≡ true
unfolding ordered
order_done before s = refl
