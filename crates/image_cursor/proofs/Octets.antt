-- The elements of a slice of bytes are below 256.
use Rattle.std.proofs.Common.{◌<◌, ℕ, List, All, get_or, w8, Fits}
use Rattle.image.specs.Typed.{Octets}
use Rattle.std.proofs.ByRecursion.{All-from_get_or}

pub typed : (s : List ℕ) → ((i : ℕ) → Fits w8 (get_or s i 0)) → Octets s
typed s h = All-from_get_or (λ b. b < 256) s 0 (λ i l. (h i).fits)

-- the same, of what is left
pub all_octets : (s : List ℕ) → All (λ b. b < 256) s → Octets s
all_octets s h = All-from_get_or (λ b. b < 256) s 0 (λ i l. h i 0 l)
