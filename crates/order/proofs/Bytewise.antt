-- The laws of the byte order.
use Rattle.std.proofs.Common.{◌≡◌, ℕ, cond, eqb, ltb, List, [], ◌∷◌, Ordering, Less, Equal, Greater, refl, arith}
use Rattle.std.proofs.lemmas.Bool.Decides.{nat_tests}
use Rattle.order.specs.Bytes.{compare_bytes, ByteOrder}
use Rattle.order.specs.Keyed.{compare_bytes_total}

-- an Equal answer comes from equal first bytes and an Equal rest
first_same : (x y : ℕ) (o : Ordering) → cond (ltb x y) Less (cond (eqb x y) o Greater) ≡ Equal → (x ≡ y) × (o ≡ Equal)
first_same x y o h = grind (arith, nat_tests)

pub bytes_same : (xs ys : List ℕ) → compare_bytes xs ys ≡ Equal → xs ≡ ys
unfolding compare_bytes
bytes_same [] [] h = refl
bytes_same [] (y ∷ ys) h = cc
bytes_same (x ∷ xs) [] h = cc
bytes_same (x ∷ xs) (y ∷ ys) h = let f = first_same x y (compare_bytes xs ys) h in cc (bytes_same xs ys f.1)

pub bytes_itself : (xs : List ℕ) → compare_bytes xs xs ≡ Equal
unfolding compare_bytes
bytes_itself [] = refl
bytes_itself (x ∷ xs) = let i = bytes_itself xs in grind (arith, nat_tests)

pub byte_order : ByteOrder
byte_order = record { total = compare_bytes_total; same = bytes_same; equal = λ xs ys e. rw e (bytes_itself ys) }
