-- The texts that a table's parts are parts of, and what its entries mean over them.
use Rattle.std.specs.Prelude.{ℕ, List}
use Rattle.json_values.specs.declared.parts.Source.{Source}
use Rattle.json_values.specs.declared.parts.Source.TheVariants.{Schema, Record, Older}
use Rattle.json_values.specs.declared.stores.Stores.{Stores}
use Rattle.json_values.specs.declared.table.Cell.{Cell}
use Rattle.json_values.specs.declared.view.View.{View}
use Rattle.json_values.specs.Meaning.{Row, meaning, rows_of, value_at}
use Rattle.json_values.specs.Value.{Value}

-- the texts of each store
abbrev pub texts_of : Stores → Source → List ℕ
texts_of s Schema = s.schema.now
texts_of s Record = s.«record».now
texts_of s Older = s.older.now

-- what the entries of a view mean, each by those below it
abbrev pub rows_in : View → List Row
rows_in view = rows_of (texts_of view.stores) view.entries.now

-- the value of the entry with the number k
abbrev pub viewed : View → ℕ → Value
viewed view k = value_at (texts_of view.stores) view.entries.now k

-- the value of a cell, where the view has what stands below it
abbrev pub meant : View → Cell → Value
meant view x = meaning (texts_of view.stores) (rows_in view) x
