-- What holds of all escaped names.
use Rattle.std.specs.Prelude.{◌≡◌, ℕ, List, codes}
use Rattle.escaping.specs.Escape.{escape}

-- no two names share an escape
abbrev pub NoCollision : Type 0
NoCollision = (s t : List ℕ) → escape s ≡ escape t → s ≡ t

-- three names that look alike once a sign is replaced carelessly
pub record WorkedNames : Type 0 where
  pub dotted : escape (codes "a.b") ≡ codes "a__dot__b"
  pub spelled : escape (codes "a_dot_b") ≡ codes "a_dot_b"
  pub doubled : escape (codes "a__b") ≡ codes "a__underscores__b"
