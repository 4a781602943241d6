-- What a writing function does to its writer.
use Rattle.std.specs.Prelude.{◌≡◌, ℕ, List, Result, is_ok}
use Rattle.writer.specs.declared.ByteWriter.{ByteWriter}
use Rattle.writer.specs.Written.{fits, moved, written}

-- the bytes are written whole where they have room, and else nothing is; the lent buffer stays the same one
pub record Writes {A E : Type 0} (old new : ByteWriter) (bytes : List ℕ) (result : Result A E) : Type 0 where
  pub ok : is_ok result ≡ fits old.out.now old.at bytes
  pub at : new.at ≡ moved old.out.now old.at bytes
  pub out : new.out.now ≡ written old.out.now old.at bytes
  pub name : new.out.ghost_name ≡ old.out.ghost_name
