-- How a text of bounded length is kept.
use Rattle.std.specs.Prelude.{◌≡◌, ℕ, ◌-◌, ◌≤◌, List, length, take, drop, replicate, ◌++◌}
use Rattle.std.proofs.Common.{arith, length-take}
use Rattle.std.proofs.lemmas.List.{take-append-drop}
use Rattle.fixed.specs.declared.text.BoundedText.TheInside.{Inside}

-- the bytes of the text stand in front in the array, and zeros behind them
pub record Kept (t : Inside) : Type 0 where
  pub room : length t.bytes ≡ 1024
  pub within : t.len ≤ 1024
  pub blank : drop t.len t.bytes ≡ replicate (1024 - t.len) 0

-- the fields that keep these bytes
abbrev pub keep : List ℕ → Inside
keep s = record { bytes = s ++ replicate (1024 - length s) 0; len = length s }

-- the bytes give the fields back
pub kept_again : (t : Inside) → Kept t → keep (take t.len t.bytes) ≡ t
kept_again t h =
    let n : length (take t.len t.bytes) ≡ t.len = omega (arith, length-take t.len t.bytes, h.room, h.within) in
    rw (n, ← h.blank, take-append-drop t.len t.bytes)
