-- What stays as tables and stores grow.
use Rattle.std.specs.Prelude.{◌≡◌, ℕ, ◌+◌, ◌<◌, ◌≤◌, List, ◌++◌, length}
use Rattle.json_values.specs.declared.parts.Part.{Part}
use Rattle.json_values.specs.declared.parts.Source.{Source}
use Rattle.json_values.specs.declared.table.Entry.{Entry}
use Rattle.json_values.specs.declared.table.Cell.{Cell}
use Rattle.json_values.specs.declared.table.Cell.TheVariants as cell
use Rattle.json_values.specs.declared.table.Span.{Span}
use Rattle.json_values.specs.Meaning.{Ascending, children, members_of, rows_of, value_at}
use Rattle.json_values.specs.Ordered.{OrderedMembers}
use Rattle.std.specs.List.{AllByRecursion}

-- a part ends within the texts of its store
abbrev pub Inside : (Source → List ℕ) → Part → Type 0
Inside texts p = p.start + p.len ≤ length (texts p.source)

abbrev pub CellInside : (Source → List ℕ) → Cell → Type 0
CellInside texts cell.Null = Unit {0}
CellInside texts (cell.Bool b) = Unit {0}
CellInside texts (cell.Int z) = Unit {0}
CellInside texts (cell.Uint n) = Unit {0}
CellInside texts (cell.Text p) = Inside texts p
CellInside texts (cell.List sp) = Unit {0}
CellInside texts (cell.Map sp) = Unit {0}

-- so do all parts of a table
abbrev pub AllInside : (Source → List ℕ) → List Entry → Type 0
AllInside texts entries = AllByRecursion (λ e. Inside texts e.key × CellInside texts e.cell) entries

-- each store has these texts, and may have more behind them
abbrev pub Grown : (Source → List ℕ) → (Source → List ℕ) → Type 0
Grown before after = (s : Source) → (more : List ℕ) × (after s ≡ before s ++ more)

-- what stands in a table keeps its meaning as the table grows, and as texts are added behind those that it names
pub record MeaningsStay : Type 0 where
  pub table_grows : (texts : Source → List ℕ) (entries more : List Entry) (i : ℕ) → i < length entries → value_at texts (entries ++ more) i ≡ value_at texts entries i
  pub texts_grow : (before after : Source → List ℕ) (entries : List Entry) → Grown before after → AllInside before entries → (i : ℕ) → value_at after entries i ≡ value_at before entries i

-- where the members of a span are those of an ordered map, its keys ascend
abbrev pub OrderedAscend : Type 0
OrderedAscend = (texts : Source → List ℕ) (entries : List Entry) (sp : Span) → OrderedMembers (members_of (children (rows_of texts entries) sp)) → Ascending texts entries sp
