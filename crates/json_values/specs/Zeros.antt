-- Bytes that hold no text.
use Rattle.std.specs.Prelude.{ℕ, ◌-◌, List, ◌++◌, length, replicate}

-- n zeros
unfoldable pub zeros : ℕ → List ℕ
zeros n = replicate n 0

-- the 65,535 bytes of a store with these texts
abbrev pub filled : List ℕ → List ℕ
filled xs = xs ++ zeros (65535 - length xs)
