-- The last of a list.
use Rattle.std.specs.Prelude.{◌-◌, List, length, Option}
use Rattle.std.specs.List.{slice_get}

-- the last element, if there is one
abbrev pub last : {T : Type 0} → List T → Option T
last xs = slice_get xs (length xs - 1)
