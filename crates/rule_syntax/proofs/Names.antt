-- Names between points.
use Rattle.std.proofs.Common.{◌≡◌, ℕ, Bool, true, false, cond, ◌&&◌, eqb, List, [], ◌∷◌, Some, None, Option, refl, ap, ◌∙◌}
use Rattle.std.specs.List.{list_all, slice_split, onto_first}
use Rattle.rule_syntax.specs.Syntax.{name_byte, name_bytes, names_of, before_dot, past_dot, onto, proper_name, every_name}
use Rattle.rule_syntax.proofs.Words.{point}

-- ---- the library's words

pub name_bytes_all : (s : List ℕ) → list_all name_byte s ≡ name_bytes s
name_bytes_all [] = refl
name_bytes_all (b ∷ s) = ap (λ c. name_byte b && c) (name_bytes_all s)

pub every_name_all : (ns : List (List ℕ)) → list_all proper_name ns ≡ every_name ns
every_name_all [] = refl
every_name_all (n ∷ ns) = ap (λ c. proper_name n && c) (every_name_all ns)

onto_same : (b : ℕ) (ns : List (List ℕ)) → onto_first b ns ≡ onto b ns
onto_same b [] = refl
onto_same b (n ∷ ns) = refl

pub names_by_split : (s : List ℕ) → slice_split point s ≡ names_of s
names_by_split [] = refl
names_by_split (b ∷ s) = ap (λ ns. cond (point b) ([] ∷ ns) (onto_first b ns)) (names_by_split s) ∙ ap (λ ns. cond (point b) ([] ∷ names_of s) ns) (onto_same b (names_of s))

-- ---- the first name

-- the names behind it
abbrev pub more_names : Option (List ℕ) → List (List ℕ)
more_names None = []
more_names (Some s) = names_of s

names_split_by : (b : ℕ) (s : List ℕ) (t : Bool) → names_of s ≡ before_dot s ∷ more_names (past_dot s)
    → cond t ([] ∷ names_of s) (onto b (names_of s)) ≡ cond t [] (b ∷ before_dot s) ∷ more_names (cond t (Some s) (past_dot s))
names_split_by b s true e = refl
names_split_by b s false e = ap (onto b) e

pub names_split : (s : List ℕ) → names_of s ≡ before_dot s ∷ more_names (past_dot s)
names_split [] = refl
names_split (b ∷ s) = names_split_by b s (eqb b 46) (names_split s)
