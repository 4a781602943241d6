-- What the expressions of a rule host mean. Expressions, names, images and texts are lists of bytes.
use Rattle.std.specs.Prelude.{ℕ, ◌≤◌, Bool, List, length}
use Rattle.std.specs.Option.{IfSome}
use Rattle.rule_host.specs.Outcomes.{text_of}
use Rattle.rule_host.specs.declared.answer.Outcome.{Outcome}

-- whether a host takes an expression; an ill one comes with a failure text
pub data Judgement : Type 0 where
  well : Judgement
  ill : List ℕ → Judgement

-- what an expression gives at an image: true, false, a text, another value, the name that was not declared, or a failure text
abbrev pub Evaluation : Type 0
Evaluation = Outcome (List ℕ)

-- a text of a host has at most 1,024 bytes
abbrev pub Short : List ℕ → Type 0
Short t = length t ≤ 1024

abbrev pub ShortJudgement : Judgement → Type 0
ShortJudgement well = Unit {0}
ShortJudgement (ill t) = Short t

abbrev pub ShortEvaluation : Evaluation → Type 0
ShortEvaluation v = IfSome (text_of v) Short

-- the fixed meaning of a host
pub record Meaning : Type 0 where
  -- what the host thinks of an expression
  pub judgement : List ℕ → Judgement
  -- whether an expression mentions a name
  pub mentioned : List ℕ → List ℕ → Bool
  -- what an expression gives at an image
  pub evaluation : List ℕ → List ℕ → Evaluation
  -- how many expressions the host accepts, and how many bytes they may have in all
  pub most_expressions : ℕ
  pub most_bytes : ℕ
  -- every host accepts 512 expressions, and 65,535 bytes in all
  pub enough_expressions : 512 ≤ most_expressions
  pub enough_bytes : 65535 ≤ most_bytes
  -- the texts of a host are short
  pub short_judgement : (e : List ℕ) → ShortJudgement (judgement e)
  pub short_evaluation : (e image : List ℕ) → ShortEvaluation (evaluation e image)
