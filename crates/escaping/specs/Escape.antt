-- How a field's name is written as an identifier of a rule.
use Rattle.std.specs.Prelude.{ℕ, Bool, false, cond, ◌&&◌, ◌||◌, List, [], ◌∷◌, ◌++◌, codes, ◌==◌}
use Rattle.std.specs.Str.{bytes_eq}

-- the words of the rule language that no field can go by
abbrev pub words : List (List ℕ)
words = codes "true" ∷ codes "false" ∷ codes "null" ∷ codes "in" ∷ codes "as" ∷ codes "break" ∷ codes "const" ∷ codes "continue" ∷ codes "else" ∷ codes "for" ∷ codes "function" ∷ codes "if" ∷ codes "import" ∷ codes "let" ∷ codes "loop" ∷ codes "package" ∷ codes "namespace" ∷ codes "return" ∷ codes "var" ∷ codes "void" ∷ codes "while" ∷ []

abbrev pub member : List ℕ → List (List ℕ) → Bool
member s [] = false
member s (w ∷ ws) = bytes_eq s w || member s ws

abbrev pub reserved : List ℕ → Bool
reserved s = member s words

-- one sign that is not the first of two underscores
abbrev pub sign : ℕ → List ℕ
sign b = cond (b == 46) (codes "__dot__") (cond (b == 45) (codes "__dash__") (cond (b == 47) (codes "__slash__") (b ∷ [])))

-- each `__`, from the left, and each of `.`, `-` and `/` written out; every other sign as it is
unfoldable pub replaced : List ℕ → List ℕ
replaced [] = []
replaced (a ∷ []) = sign a
replaced (a ∷ (b ∷ s)) = cond (a == 95 && b == 95) (codes "__underscores__" ++ replaced s) (sign a ++ replaced (b ∷ s))

-- the same, each sign a text of its own
unfoldable pub signs : List ℕ → List (List ℕ)
signs [] = []
signs (a ∷ []) = sign a ∷ []
signs (a ∷ (b ∷ s)) = cond (a == 95 && b == 95) (codes "__underscores__" ∷ signs s) (sign a ∷ signs (b ∷ s))

-- a reserved word, with `__` on both sides
abbrev pub wrapped : List ℕ → List ℕ
wrapped s = codes "__" ++ (s ++ codes "__")

-- how any name is written
unfoldable pub escape : List ℕ → List ℕ
escape s = cond (reserved s) (wrapped s) (replaced s)
