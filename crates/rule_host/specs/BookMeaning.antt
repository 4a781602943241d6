-- The meaning that its rows give an answer book.
use Rattle.std.specs.Prelude.{◌&&◌, List, codes}
use Rattle.std.proofs.Common.{lit≤}
use Rattle.std.specs.Str.{bytes_eq}
use Rattle.rule_host.specs.Meaning.{Meaning}
use Rattle.rule_host.specs.Rows.{BookRow, present, is_at, row_for, row_at, judgement_by, mark_by, evaluation_by}
use Rattle.rule_host.specs.Shortness.{short_judged, short_first}

-- the first row of an expression says whether it mentions `oldSelf`, and it mentions no other name; the first row of an expression
-- and an image says what it gives there
abbrev pub book_meaning : List BookRow → Meaning
book_meaning rs = record {
  judgement = λ e. judgement_by (row_for e (present rs));
  mentioned = λ e name. bytes_eq name (codes "oldSelf") && mark_by (row_for e (present rs));
  evaluation = λ e i. evaluation_by (row_at e i (present rs));
  most_expressions = 512;
  most_bytes = 65535;
  enough_expressions = lit≤ tt;
  enough_bytes = lit≤ tt;
  short_judgement = λ e. short_judged (row_for e (present rs));
  short_evaluation = λ e i. short_first (is_at e i) rs;
}
