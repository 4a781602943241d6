-- The writing of a text, which is two writes.
use Rattle.std.specs.Prelude.{◌≡◌, ℕ, ◌+◌, ◌^◌, Bool, cond, ◌&&◌, List, [], ◌∷◌, length, nat_lt, Result, is_ok, if◌then◌else◌}
use Rattle.image.specs.Image.{sized}
use Rattle.writer.specs.declared.ByteWriter.{ByteWriter}
use Rattle.writer.specs.Written.{be4, fits, moved, put, written}

-- whether four bytes hold the length and the buffer has room for all
abbrev pub sized_fits : List ℕ → ℕ → ℕ → List ℕ → Bool
sized_fits out at b s = nat_lt (length s) (2 ^ 32) && fits out at (sized b s)

-- the command and the length alone, as they are written first; nothing where four bytes do not hold the length
abbrev pub front : ℕ → List ℕ → List ℕ
front b s = cond (nat_lt (length s) (2 ^ 32)) (b ∷ be4 (length s)) []

-- the bytes are written whole, behind their command and length; where they have no room, these two alone may be
pub record WritesSized {A E : Type 0} (old new : ByteWriter) (b : ℕ) (s : List ℕ) (result : Result A E) : Type 0 where
  pub ok : is_ok result ≡ sized_fits old.out.now old.at b s
  pub at : new.at ≡ (if is_ok result then old.at + length (sized b s) else moved old.out.now old.at (front b s))
  pub out : new.out.now ≡ (if is_ok result then put old.out.now old.at (sized b s) else written old.out.now old.at (front b s))
  pub name : new.out.ghost_name ≡ old.out.ghost_name
