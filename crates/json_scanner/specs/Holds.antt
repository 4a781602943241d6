-- The room that an act needs.
use Rattle.std.specs.Prelude.{ℕ, ◌<◌}
use Rattle.json_scanner.specs.declared.modes.Act.{Act}
use Rattle.json_scanner.specs.declared.modes.Act.TheVariants as act

-- there is room for what an act opens, in d others
abbrev pub Room : Act → ℕ → Type 0
Room act.Stay d = Unit {0}
Room act.Begin d = Unit {0}
Room (act.Open c) d = d < 200
Room act.Close d = Unit {0}
Room (act.Add p) d = Unit {0}
Room act.Key d = Unit {0}
Room act.Text d = Unit {0}
Room act.Null d = Unit {0}
Room (act.Bool b) d = Unit {0}

-- and for the value that begins, behind n others
abbrev pub Counts : Act → ℕ → Type 0
Counts act.Stay n = Unit {0}
Counts act.Begin n = n < 4096
Counts (act.Open c) n = n < 4096
Counts act.Close n = Unit {0}
Counts (act.Add p) n = Unit {0}
Counts act.Key n = Unit {0}
Counts act.Text n = Unit {0}
Counts act.Null n = Unit {0}
Counts (act.Bool b) n = Unit {0}
