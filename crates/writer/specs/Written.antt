-- What a write into a lent buffer leaves: the whole of it, or nothing.
use Rattle.std.specs.Prelude.{ℕ, ◌+◌, ◌/◌, ◌%◌, Bool, cond, List, [], ◌∷◌, ◌++◌, length, take, drop, nat_le}

-- `out` with `s` written over it from `at` on; what lies before and behind stays
unfoldable pub put : List ℕ → ℕ → List ℕ → List ℕ
put out at s = take at out ++ (s ++ drop (at + length s) out)

-- whether `s` has room in `out` from `at` on
abbrev pub fits : List ℕ → ℕ → List ℕ → Bool
fits out at s = nat_le (at + length s) (length out)

-- the buffer after a write of `s` at `at`: as it was where there is no room
abbrev pub written : List ℕ → ℕ → List ℕ → List ℕ
written out at s = cond (fits out at s) (put out at s) out

-- the position after it
abbrev pub moved : List ℕ → ℕ → List ℕ → ℕ
moved out at s = cond (fits out at s) (at + length s) at

-- a number in four bytes, the highest first
abbrev pub be4 : ℕ → List ℕ
be4 n = (n / 16777216 % 256) ∷ (n / 65536 % 256) ∷ (n / 256 % 256) ∷ (n % 256) ∷ []

-- a number in eight bytes, the highest first
abbrev pub be8 : ℕ → List ℕ
be8 n = (n / 72057594037927936 % 256) ∷ (n / 281474976710656 % 256) ∷ (n / 1099511627776 % 256) ∷ (n / 4294967296 % 256) ∷ (n / 16777216 % 256) ∷ (n / 65536 % 256) ∷ (n / 256 % 256) ∷ (n % 256) ∷ []
