-- What `contains` says of a table of words.
use Rattle.std.proofs.Common.{◌≡◌, ℕ, ◌||◌, List, [], ◌∷◌, refl, arith}
use Rattle.std.specs.List.{list_any}
use Rattle.std.specs.Str.{bytes_eq}
use Rattle.std.proofs.lemmas.Slice.Eq.{bytes_eq-Decides}
use Rattle.escaping.specs.Escape.{member}

turned : (xs ys : List ℕ) → bytes_eq xs ys ≡ bytes_eq ys xs
turned xs ys = grind (arith, bytes_eq-Decides)

pub listed : (ws : List (List ℕ)) (k : List ℕ) → list_any (λ w. bytes_eq w k) ws ≡ member k ws
listed [] k = refl
listed (w ∷ ws) k = λ i. turned w k i || listed ws k i
