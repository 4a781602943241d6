-- The first names of paths.
use Rattle.std.proofs.Common.{◌≡◌, ℕ, Bool, ◌||◌, List, [], ◌∷◌, map, refl, ap}
use Rattle.std.specs.List.{list_any}
use Rattle.std.specs.Str.{bytes_eq}
use Rattle.rule_syntax.specs.declared.rule.Comparison.{Comparison}
use Rattle.rule_syntax.specs.Syntax.{meant, meant_operand, path, names_of, before_dot}
use Rattle.rule_syntax.specs.Mention.{begins_with, mentioned}
use Rattle.rule_syntax.proofs.Names.{names_split}

pub first_is : (s name : List ℕ) → begins_with (path (names_of s)) name ≡ bytes_eq (before_dot s) name
first_is s name = ap (λ ns. begins_with (path ns) name) (names_split s)

-- one comparison
abbrev pub either : List ℕ → List ℕ → Comparison → Bool
either s name c = begins_with (meant_operand s c.left) name || begins_with (meant_operand s c.right) name

pub mentioned_any : (s name : List ℕ) (cs : List Comparison) → list_any (either s name) cs ≡ mentioned (map (meant s) cs) name
mentioned_any s name [] = refl
mentioned_any s name (c ∷ cs) = ap (λ b. either s name c || b) (mentioned_any s name cs)
