-- What a text is read into.
use Rattle.std.specs.Prelude.{◌≡◌}
use Rattle.json_reader.specs.Building.{Built}
use Rattle.json_reader.specs.Notes.{Notes}
use Rattle.json_reader.specs.declared.reader.Target.{Target}

-- the notes, with what stands in the store and the table
abbrev pub made : Notes → Target → Built
made n t = record { notes = n; text = t.store.now; table = t.table.now }

-- the same text, into the same store and table
abbrev pub SameTarget : Target → Target → Type 0
SameTarget t u = (u.source ≡ t.source) × (u.store.ghost_name ≡ t.store.ghost_name) × (u.table.ghost_name ≡ t.table.ghost_name)
