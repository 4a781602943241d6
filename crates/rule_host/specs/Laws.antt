-- What holds of every host's compilations, and of the rows of every answer book, by their definitions.
use Rattle.std.specs.Prelude.{◌≡◌, ℕ, ◌<◌, ◌≤◌, Bool, true, false, List, [], ◌∷◌, ◌++◌, length, Some, None, Ok, find, slice_index_or}
use Rattle.std.specs.List.{AllByRecursion}
use Rattle.rule_host.specs.Compiling.{compiled, total, Distinct}
use Rattle.rule_host.specs.Meaning.{Meaning}
use Rattle.rule_host.specs.Rows.{BookRow, is_short, present}

-- for any meaning, accepted expressions and expression
pub record CompilingLaws : Type 0 where
  -- a number stands for the expression that it was given for
  pub stands : (m : Meaning) (acc : List (List ℕ)) (e : List ℕ) (n : ℕ) → (compiled m acc e).0 ≡ Ok n → (n < length (compiled m acc e).1) × (slice_index_or (compiled m acc e).1 n [] ≡ e)
  -- a number that stands for an expression does so for good
  pub lasts : (m : Meaning) (acc : List (List ℕ)) (e : List ℕ) (n : ℕ) → n < length acc → (n < length (compiled m acc e).1) × (slice_index_or (compiled m acc e).1 n [] ≡ slice_index_or acc n [])
  -- a second compilation answers as the first and leaves the list
  pub repeats : (m : Meaning) (acc : List (List ℕ)) (e : List ℕ) → compiled m (compiled m acc e).1 e ≡ compiled m acc e
  -- the list never holds an expression twice
  pub distinct : (m : Meaning) (acc : List (List ℕ)) (e : List ℕ) → Distinct acc → Distinct (compiled m acc e).1
  -- the list never passes the capacity
  pub few : (m : Meaning) (acc : List (List ℕ)) (e : List ℕ) → length acc ≤ m.most_expressions → length (compiled m acc e).1 ≤ m.most_expressions
  pub small : (m : Meaning) (acc : List (List ℕ)) (e : List ℕ) → total acc ≤ m.most_bytes → total (compiled m acc e).1 ≤ m.most_bytes

-- a row passes a test, and no row before it does
pub record DecidesFirst (p : BookRow → Bool) (rs : List BookRow) (r : BookRow) : Type 0 where
  pub earlier : List BookRow
  pub later : List BookRow
  pub stands : rs ≡ earlier ++ r ∷ later
  pub passes : p r ≡ true
  pub none_before : AllByRecursion (λ s. p s ≡ false) earlier

-- for any test and rows
pub record BookLaws : Type 0 where
  -- the row that decides is the first that passes
  pub some : (p : BookRow → Bool) (rs : List BookRow) (r : BookRow) → find p rs ≡ Some r → DecidesFirst p rs r
  -- where none decides, none passes
  pub none : (p : BookRow → Bool) (rs : List BookRow) → find p rs ≡ None → AllByRecursion (λ s. p s ≡ false) rs
  -- a row with a long text changes nothing
  pub absent : (rs : List BookRow) (r : BookRow) → is_short r.outcome ≡ false → present (rs ++ r ∷ []) ≡ present rs
