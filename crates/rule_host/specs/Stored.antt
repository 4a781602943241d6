-- Rows as slices of an arena of bytes.
use Rattle.std.specs.Prelude.{ℕ, List, drop, take}
use Rattle.fixed.specs.declared.slice.Slice.{Slice}
use Rattle.rule_host.specs.Rows.{row_map, BookRow}
use Rattle.rule_host.specs.declared.row.Row.{Row}

-- the bytes of a slice
abbrev pub bytes_at : List ℕ → Slice → List ℕ
bytes_at arena s = take s.len (drop s.start arena)

-- the row that a stored row stands for
abbrev pub stored_at : List ℕ → Row Slice → BookRow
stored_at arena r = row_map (bytes_at arena) r
