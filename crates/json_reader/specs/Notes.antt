-- What is built of a text that is not at its end, and what a reader holds.
use Rattle.std.specs.Prelude.{ℕ, List}
use Rattle.json_values.specs.declared.parts.Part.{Part}
use Rattle.json_values.specs.declared.table.Entry.{Entry}
use Rattle.json_reader.specs.declared.builder.Open.{Open}

-- the values that wait for their container, the containers that are open, the key of the value to come, where the
-- text that is being read begins in the store, and the place of the literal or text that has begun
pub record Notes : Type 0 where
  pub pending : List Entry
  pub opens : List Open
  pub key : Part
  pub begun : ℕ
  pub place : ℕ

-- what a sort works in
pub record Room : Type 0 where
  pub numbers : List ℕ
  pub scratch : List ℕ

-- a reader: what is built of its text, and its room for sorts
pub record Desk : Type 0 where
  pub notes : Notes
  pub room : Room
