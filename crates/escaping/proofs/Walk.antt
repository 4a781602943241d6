-- The pieces of an escape, one behind another.
use Rattle.std.proofs.Common.{◌≡◌, ℕ, Bool, cond, List, [], ◌++◌, ap, ◌∙◌, append-nil}
use Rattle.std.specs.List.{concat}
use Rattle.escaping.specs.Escape.{escape, replaced, reserved, signs, wrapped}
use Rattle.escaping.specs.Left.{spelled}
use Rattle.escaping.proofs.Pieces.{signs_joined}

-- the signs of a name alone
pub name_joined : (s : List ℕ) → concat (signs s ++ []) ≡ replaced s
name_joined s = ap concat (append-nil (signs s)) ∙ signs_joined s

-- a reserved word is spelled as a word
pub spelled_word : (s : List ℕ) (b : Bool) → b ≡ reserved s → spelled b s ≡ escape s
unfolding escape
spelled_word s b r = ap (λ t. cond t (wrapped s) (replaced s)) r
