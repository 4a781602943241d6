-- The rows of an answer book: which of them decide, and how they are added.
use Rattle.std.specs.Prelude.{ℕ, ◌+◌, Bool, true, false, cond, ◌&&◌, List, [], ◌∷◌, ◌++◌, length, Some, None, codes, filter, find, map, option_map, position, unwrap_or, Option, nat_le}
use Rattle.std.specs.Borrow.{Bor}
use Rattle.std.specs.List.{slice_get}
use Rattle.std.specs.Str.{bytes_eq}
use Rattle.rule_host.specs.Meaning.{Judgement, well, ill, Evaluation}
use Rattle.rule_host.specs.Outcomes.{text_of, outcome_map}
use Rattle.rule_host.specs.declared.answer.Outcome.TheVariants.{Failure}
use Rattle.rule_host.specs.declared.row.Row.{Row}

-- the same row with f of each of its texts
abbrev pub row_map : {T U : Type 0} → (T → U) → Row T → Row U
row_map f r = record {
  expression = f r.expression;
  marked = r.marked;
  image = f r.image;
  outcome = outcome_map f r.outcome;
}

-- a row as it stands in a book: what an expression gives at an image, and whether the expression mentions `oldSelf`
abbrev pub BookRow : Type 0
BookRow = Row (List ℕ)

-- a row as it is given: its bytes
abbrev pub given : Row (Bor (List ℕ)) → BookRow
given r = row_map (λ t. t.now) r

-- the text of an evaluation, which is empty where there is none
abbrev pub text_in : Evaluation → List ℕ
text_in v = unwrap_or (text_of v) []

-- whether the text of a row is no longer than a host's texts are
abbrev pub is_short : Evaluation → Bool
is_short v = nat_le (length (text_in v)) 1024

-- the rows that count: one with a longer text is as good as absent
abbrev pub present : List BookRow → List BookRow
present rs = filter (λ r. is_short r.outcome) rs

-- whether a row is one of an expression
abbrev pub is_for : List ℕ → BookRow → Bool
is_for e r = bytes_eq r.expression e

-- whether a row is one of an expression and an image
abbrev pub is_at : List ℕ → List ℕ → BookRow → Bool
is_at e i r = bytes_eq r.expression e && bytes_eq r.image i

-- the first row of an expression
abbrev pub row_for : List ℕ → List BookRow → Option BookRow
row_for e rs = find (is_for e) rs

-- the first row of an expression and an image
abbrev pub row_at : List ℕ → List ℕ → List BookRow → Option BookRow
row_at e i rs = find (is_at e i) rs

-- the place of the first row of an expression
abbrev pub place_for : List ℕ → List BookRow → Option ℕ
place_for e rs = position (is_for e) rs

-- an expression in no row is ill
abbrev pub judgement_by : Option BookRow → Judgement
judgement_by None = ill (codes "not in book")
judgement_by (Some r) = well

-- the mark of a row
abbrev pub mark_by : Option BookRow → Bool
mark_by None = false
mark_by (Some r) = r.marked

-- the outcome of a row
abbrev pub evaluation_by : Option BookRow → Evaluation
evaluation_by None = Failure (codes "no row")
evaluation_by (Some r) = r.outcome

-- the expression of the row at a place, which is empty where there is no row
abbrev pub expression_at : List BookRow → ℕ → List ℕ
expression_at rs i = unwrap_or (option_map (λ r. r.expression) (slice_get rs i)) []

abbrev pub expressions_at : List BookRow → List ℕ → List (List ℕ)
expressions_at rs is = map (expression_at rs) is

-- ---- the room of a book

-- the bytes of a row, and of rows in all
abbrev pub row_bytes : BookRow → ℕ
row_bytes r = length r.expression + (length r.image + length (text_in r.outcome))

abbrev pub rows_bytes : List BookRow → ℕ
rows_bytes [] = 0
rows_bytes (r ∷ rs) = row_bytes r + rows_bytes rs

-- whether a book has room for one more row, of n bytes: it holds at most 1,024 rows, and 262,144 bytes in all
abbrev pub has_space : List BookRow → ℕ → Bool
has_space rs n = nat_le (length rs + 1) 1024 && nat_le (rows_bytes rs + n) 262144

-- a row goes to the end, if there is room
abbrev pub with_row : List BookRow → BookRow → Bool → Bool × List BookRow
with_row rs r true = (true, rs ++ r ∷ [])
with_row rs r false = (false, rs)

-- whether a row that is offered is granted, and the rows after it; one with a long text is as good as absent
abbrev pub offered : List BookRow → BookRow → Bool × List BookRow
offered rs r = cond (is_short r.outcome) (with_row rs r (has_space rs (row_bytes r))) (true, rs)
