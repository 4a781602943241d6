-- What a JSON value is.
use Rattle.std.specs.Prelude.{ℕ, Bool, List, ℤ}

-- a value; the items of a list; the members of a map, in ascending byte order of their keys
mutual
  pub data Value : Type 0 where
    null : Value
    bool : Bool → Value
    int : ℤ → Value
    uint : ℕ → Value
    text : List ℕ → Value
    list : Items → Value
    map : Members → Value

  pub data Items : Type 0 where
    no_item : Items
    item : Value → Items → Items

  pub data Members : Type 0 where
    no_member : Members
    member : List ℕ → Value → Members → Members
