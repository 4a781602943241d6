-- How a book keeps its rows in an arena of bytes.
use Rattle.std.specs.Prelude.{◌≡◌, ℕ, ◌+◌, ◌≤◌, List, map, length, All}
use Rattle.std.specs.Option.{IfSome}
use Rattle.fixed.specs.declared.slice.Slice.{Slice}
use Rattle.rule_host.specs.Outcomes.{text_of}
use Rattle.rule_host.specs.Rows.{BookRow, present, rows_bytes}
use Rattle.rule_host.specs.Stored.{stored_at}
use Rattle.rule_host.specs.declared.book.Book.TheInside.{Inside}
use Rattle.rule_host.specs.declared.row.Row.{Row}

-- the rows, first to last
abbrev pub rows_in : Inside → List BookRow
rows_in b = map (stored_at b.arena) b.rows

-- whether a slice lies within the first n bytes
abbrev pub Within : ℕ → Slice → Type 0
Within n s = s.start + s.len ≤ n

abbrev pub RowWithin : ℕ → Row Slice → Type 0
RowWithin n r = Within n r.expression × Within n r.image × IfSome (text_of r.outcome) (Within n)

-- the slices of the rows lie in the arena, no row has a long text, and no byte of the arena is spare
pub record Kept (b : Inside) : Type 0 where
  pub within : All (RowWithin (length b.arena)) b.rows
  pub short : present (rows_in b) ≡ rows_in b
  pub filled : rows_bytes (rows_in b) ≡ length b.arena
