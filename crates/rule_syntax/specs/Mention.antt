-- Which names the paths of a rule begin with.
use Rattle.std.specs.Prelude.{ℕ, Bool, false, ◌||◌, List, [], ◌∷◌, Some, None, Option}
use Rattle.std.specs.Str.{bytes_eq}
use Rattle.rule_syntax.specs.Syntax.{Term, int, bool, null, path, Compared, before_dot, past_dot}

-- a path whose first name is `name`
abbrev pub begins_with : Term → List ℕ → Bool
begins_with (int z) name = false
begins_with (bool b) name = false
begins_with null name = false
begins_with (path []) name = false
begins_with (path (n ∷ more)) name = bytes_eq n name

-- some path of the rule begins with `name`
abbrev pub mentioned : List Compared → List ℕ → Bool
mentioned [] name = false
mentioned (c ∷ cs) name = (begins_with c.left name || begins_with c.right name) || mentioned cs name

-- the text behind the first point, or none
abbrev pub or_empty : Option (List ℕ) → List ℕ
or_empty None = []
or_empty (Some s) = s

-- the first name of a path, and the path that follows it
abbrev pub first_name_of : List ℕ → Option (List ℕ × List ℕ)
first_name_of [] = None
first_name_of (b ∷ s) = Some (before_dot (b ∷ s), or_empty (past_dot (b ∷ s)))
