-- How the containers that are open are kept.
use Rattle.std.specs.Prelude.{◌≡◌, ◌-◌, ◌≤◌, List, length, reverse, take, drop, replicate, ◌++◌}
use Rattle.std.proofs.Common.{arith, length-take}
use Rattle.std.proofs.lemmas.List.{take-append-drop, length-reverse, reverse-reverse}
use Rattle.json_scanner.specs.declared.modes.Container.{Container}
use Rattle.json_scanner.specs.declared.modes.Container.TheVariants as container
use Rattle.json_scanner.specs.declared.stack.Stack.TheInside.{Inside}

-- the containers stand in front in the array, and lists, the default, behind them
pub record Kept (s : Inside) : Type 0 where
  pub room : length s.kinds ≡ 200
  pub within : s.depth ≤ 200
  pub blank : drop s.depth s.kinds ≡ replicate (200 - s.depth) container.List

-- the fields that keep these containers
abbrev pub keep : List Container → Inside
keep cs = record { kinds = reverse cs ++ replicate (200 - length cs) container.List; depth = length cs }

-- the containers give the fields back
pub kept_again : (s : Inside) → Kept s → keep (reverse (take s.depth s.kinds)) ≡ s
kept_again s h =
    let n : length (reverse (take s.depth s.kinds)) ≡ s.depth = omega (arith, length-reverse (take s.depth s.kinds), length-take s.depth s.kinds, h.room, h.within) in
    rw (n, reverse-reverse, ← h.blank, take-append-drop s.depth s.kinds)
