-- What the answer of a reader says of the text, in the grammar's words.
use Rattle.std.specs.Prelude.{◌≡◌, ℕ, ◌≤◌, false, List, Ok, Err, Result}
use Rattle.json_scanner.specs.declared.modes.Fault.{Fault}
use Rattle.json_scanner.specs.Grammar.{Tree, Text, over, size}
use Rattle.json_scanner.specs.Faults.{Faulty, CountsFirst}

-- s is a text of t and of no other value, and t is within the limits
pub record Accepted (s : List ℕ) (t : Tree) : Type 0 where
  pub text : Text t s
  pub fits : over 0 t ≡ false
  pub few : size t ≤ 4096
  pub one : (v : Tree) → Text v s → v ≡ t

-- f is the fault of s that counts
pub record Refused (s : List ℕ) (f : Fault) : Type 0 where
  pub faulty : Faulty s f
  pub before : (g : Fault) → Faulty s g → CountsFirst f g

-- what a reader that answers with the value says
abbrev pub Builds : List ℕ → Result Tree Fault → Type 0
Builds s (Ok t) = Accepted s t
Builds s (Err f) = Refused s f

-- what a reader that answers whether there is one says
abbrev pub Reads : List ℕ → Result (Unit {0}) Fault → Type 0
Reads s (Ok x) = (t : Tree) × Accepted s t
Reads s (Err f) = Refused s f

-- no other answer is right of s
abbrev pub Alone : List ℕ → Result (Unit {0}) Fault → Type 0
Alone s r = (q : Result (Unit {0}) Fault) → Reads s q → q ≡ r
