-- The order of byte strings.
use Rattle.std.specs.Prelude.{◌≡◌, ℕ, cond, List, [], ◌∷◌, ◌==◌, nat_lt}
use Rattle.std.specs.declared.cmp.Ordering.TheVariants.{Less, Equal, Greater}
use Rattle.std.specs.declared.cmp.Ordering.{Ordering}
use Rattle.std.specs.Cmp.{IsTotalOrder}

-- The first byte that differs decides; where there is none, the shorter string is Less.
unfoldable pub compare_bytes : List ℕ → List ℕ → Ordering
compare_bytes [] [] = Equal
compare_bytes [] (y ∷ ys) = Less
compare_bytes (x ∷ xs) [] = Greater
compare_bytes (x ∷ xs) (y ∷ ys) = cond (nat_lt x y) Less (cond (x == y) (compare_bytes xs ys) Greater)

-- The order of byte strings is total, and Equal exactly where the two are the same.
pub record ByteOrder : Type 0 where
  -- turning round, transitivity, and equal ones alike
  pub total : IsTotalOrder compare_bytes
  -- Equal only where the two are the same, and there always
  pub same : (xs ys : List ℕ) → compare_bytes xs ys ≡ Equal → xs ≡ ys
  pub equal : (xs ys : List ℕ) → xs ≡ ys → compare_bytes xs ys ≡ Equal
