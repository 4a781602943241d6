-- What a host does with the list of its accepted expressions. A program's number is the place of its expression in the list.
use Rattle.std.specs.Prelude.{ℕ, ◌+◌, ◌<◌, Bool, true, false, ◌&&◌, List, [], ◌∷◌, ◌++◌, length, Some, None, Ok, Err, Option, Result, position, ◌≢◌, nat_le, slice_index_or}
use Rattle.std.specs.Option.{option_map}
use Rattle.std.specs.List.{slice_get}
use Rattle.std.specs.Str.{bytes_eq}
use Rattle.rule_host.specs.Meaning.{Meaning, Judgement, well, ill, Evaluation}
use Rattle.rule_host.specs.declared.answer.CompileError.{CompileError}
use Rattle.rule_host.specs.declared.answer.CompileError.TheVariants.{Full, Ill}

-- what a compilation answers: the number of the program, or the failure text of an ill expression, or that there is no room
abbrev pub Compilation : Type 0
Compilation = Result ℕ CompileError

-- the first place of an expression in a list
abbrev pub place : List ℕ → List (List ℕ) → Option ℕ
place e xs = position (λ x. bytes_eq x e) xs

-- the bytes of a list of expressions in all
abbrev pub total : List (List ℕ) → ℕ
total [] = 0
total (x ∷ xs) = length x + total xs

-- whether one more expression is within the capacity
abbrev pub has_room : Meaning → List (List ℕ) → List ℕ → Bool
has_room m acc e = nat_le (length acc + 1) m.most_expressions && nat_le (total acc + length e) m.most_bytes

-- a new expression goes to the end, if there is room
abbrev pub appended : List (List ℕ) → List ℕ → Bool → Compilation × List (List ℕ)
appended acc e true = (Ok (length acc), acc ++ e ∷ [])
appended acc e false = (Err Full, acc)

-- a known expression keeps its place
abbrev pub numbered : List (List ℕ) → List ℕ → Bool → Option ℕ → Compilation × List (List ℕ)
numbered acc e room (Some n) = (Ok n, acc)
numbered acc e room None = appended acc e room

-- an ill expression is rejected, known or not
abbrev pub judged : List (List ℕ) → List ℕ → Bool → Option ℕ → Judgement → Compilation × List (List ℕ)
judged acc e room known well = numbered acc e room known
judged acc e room known (ill t) = (Err (Ill t), acc)

-- the answer to a compilation, and the accepted expressions after it
abbrev pub compiled : Meaning → List (List ℕ) → List ℕ → Compilation × List (List ℕ)
compiled m acc e = judged acc e (has_room m acc e) (place e acc) (m.judgement e)

-- whether the expression at a number mentions a name; nothing where the list has no such number
abbrev pub mentions_at : Meaning → List (List ℕ) → ℕ → List ℕ → Option Bool
mentions_at m acc n name = option_map (λ e. m.mentioned e name) (slice_get acc n)

-- what the expression at a number gives at an image; nothing where the list has no such number
abbrev pub evaluation_at : Meaning → List (List ℕ) → ℕ → List ℕ → Option Evaluation
evaluation_at m acc n image = option_map (λ e. m.evaluation e image) (slice_get acc n)

-- no expression stands in the list twice
abbrev pub Distinct : List (List ℕ) → Type 0
Distinct acc = (i j : ℕ) → (i < j) × (j < length acc) → slice_index_or acc i [] ≢ slice_index_or acc j []
