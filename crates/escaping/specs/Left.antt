-- What a walk over an escape has yet to give.
use Rattle.std.specs.Prelude.{ℕ, Bool, true, false, cond, List, [], ◌∷◌, ◌++◌, codes, Some, None, Option}
use Rattle.std.specs.Borrow.{Bor}
use Rattle.std.specs.List.{concat}
use Rattle.escaping.specs.declared.compare.Escaped.{Escaped}
use Rattle.escaping.specs.declared.piece.Pieces.{Pieces}
use Rattle.escaping.specs.Escape.{replaced, signs, wrapped}

-- a word between underscores, or a name with its signs written out
abbrev pub spelled : Bool → List ℕ → List ℕ
spelled b s = cond b (wrapped s) (replaced s)

-- what stands beside a word, if anything does
abbrev pub beside : Bool → List (List ℕ)
beside false = []
beside true = codes "__" ∷ []

-- a word as a whole, if there is one
abbrev pub whole : Option (Bor (List ℕ)) → List (List ℕ)
whole None = []
whole (Some x) = x.now ∷ []

-- underscores, the signs of a name, a word, and underscores again
abbrev pub pieces_left : Pieces → List (List ℕ)
pieces_left p = beside p.opens ++ (signs p.name.now ++ (whole p.word ++ beside p.closes))

-- the piece in hand, and the bytes of those behind it
abbrev pub bytes_left : Escaped → List ℕ
bytes_left e = e.piece.now ++ concat (pieces_left e.pieces)
