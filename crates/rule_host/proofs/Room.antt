-- The two tests of a room: how many there are, and how much they take.
use Rattle.std.proofs.Common.{◌≡◌, ℕ, ◌+◌, ◌-◌, ◌^◌, ◌<◌, ◌≤◌, min, Bool, true, ◌&&◌, ltb, leb, arith}
use Rattle.std.proofs.lemmas.Bool.{and_parts, leb-true}
use Rattle.std.proofs.lemmas.Bool.Decides.{nat_tests}

-- where there is room for one more, the other test decides, which a number says that is cut at the most that a `usize` says
pub room_left : (n few t used k most : ℕ) → n < few → used ≡ t → used ≤ most → leb k (most - used) ≡ (leb (n + 1) few && leb (t + k) most)
room_left n few t used k most h e l = grind (arith, nat_tests)

pub size_left : (n few t used k most : ℕ) → most < 2 ^ 64 - 1 → n < few → used ≡ t → used ≤ most → leb (min k (2 ^ 64 - 1)) (most - used) ≡ (leb (n + 1) few && leb (t + k) most)
size_left n few t used k most b h e l = grind (arith, nat_tests)

-- where there is none, both fail
pub no_room_left : (n few : ℕ) (b : Bool) → few ≤ n → ltb n few ≡ (leb (n + 1) few && b)
no_room_left n few b h = grind (arith, nat_tests)

-- what one more that is granted finds
pub room_is : (n few t most : ℕ) → (leb n few && leb t most) ≡ true → (n ≤ few) × (t ≤ most)
room_is n few t most h = let q = and_parts (leb n few) (leb t most) h in (leb-true n few q.0, leb-true t most q.1)
