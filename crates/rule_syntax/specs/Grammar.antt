-- What a rule is: its parts as they are written, the text that spells them, and what they say.
use Rattle.std.specs.Prelude.{◌≡◌, ℕ, ◌+◌, ◌*◌, ◌^◌, ◌<◌, ◌≤◌, true, false, List, [], ◌∷◌, ◌++◌, map, length, replicate, pos, neg_ℤ, Some, codes}
use Rattle.std.specs.Int.Digits.{number_from_digits}
use Rattle.std.specs.List.{AllByRecursion}
use Rattle.rule_syntax.specs.declared.rule.Operator.{Operator}
use Rattle.rule_syntax.specs.declared.rule.Operator.TheVariants.{Eq, Ne, Lt, Le, Gt, Ge}
use Rattle.rule_syntax.specs.Syntax.{Term, int, bool, null, path, Compared, proper_name, parsed}

-- an operand as it is written: digits, each below ten, without a minus or behind one, a constant, or names
pub data Written : Type 0 where
  plain : List ℕ → Written
  minus : List ℕ → Written
  truth : Written
  falsehood : Written
  nothing : Written
  named : List (List ℕ) → Written

-- digits as they are written, 48 being the byte of `0`
abbrev pub digits_text : List ℕ → List ℕ
digits_text ds = map (λ d. 48 + d) ds

-- names behind points, 46 being the byte of the point
abbrev pub pointed_text : List (List ℕ) → List ℕ
pointed_text [] = []
pointed_text (n ∷ more) = 46 ∷ (n ++ pointed_text more)

-- names joined by points
abbrev pub names_text : List (List ℕ) → List ℕ
names_text [] = []
names_text (n ∷ more) = n ++ pointed_text more

-- an operand's text, 45 being the byte of the minus
abbrev pub written_text : Written → List ℕ
written_text (plain ds) = digits_text ds
written_text (minus ds) = 45 ∷ digits_text ds
written_text truth = codes "true"
written_text falsehood = codes "false"
written_text nothing = codes "null"
written_text (named ns) = names_text ns

-- what it says
abbrev pub says : Written → Term
says (plain ds) = int (pos (number_from_digits 10 ds))
says (minus ds) = int (neg_ℤ (pos (number_from_digits 10 ds)))
says truth = bool true
says falsehood = bool false
says nothing = null
says (named ns) = path ns

-- there is a digit, and the number is from -2^63 to 2^63 - 1; there is a name, and each is a name
abbrev pub ProperWritten : Written → Type 0
ProperWritten (plain ds) = AllByRecursion (λ d. d < 10) ds × (0 < length ds) × (number_from_digits 10 ds < 2 ^ 63)
ProperWritten (minus ds) = AllByRecursion (λ d. d < 10) ds × (0 < length ds) × (number_from_digits 10 ds ≤ 2 ^ 63)
ProperWritten truth = Unit {0}
ProperWritten falsehood = Unit {0}
ProperWritten nothing = Unit {0}
ProperWritten (named ns) = (0 < length ns) × AllByRecursion (λ n. proper_name n ≡ true) ns

-- an operand with so many spaces before it and behind it
pub record Spaced : Type 0 where
  pub before : ℕ
  pub operand : Written
  pub behind : ℕ

-- n spaces
abbrev pub spaces : ℕ → List ℕ
spaces n = replicate n 32

-- its text
abbrev pub spaced_text : Spaced → List ℕ
spaced_text x = spaces x.before ++ (written_text x.operand ++ spaces x.behind)

-- an operator's text
abbrev pub operator_text : Operator → List ℕ
operator_text Eq = codes "=="
operator_text Ne = codes "!="
operator_text Lt = codes "<"
operator_text Le = codes "<="
operator_text Gt = codes ">"
operator_text Ge = codes ">="

-- a comparison in its parts
pub record Phrase : Type 0 where
  pub left : Spaced
  pub operator : Operator
  pub right : Spaced

-- its text: an operand, the operator and an operand
abbrev pub phrase_text : Phrase → List ℕ
phrase_text p = spaced_text p.left ++ (operator_text p.operator ++ spaced_text p.right)

-- what it says
abbrev pub phrase_says : Phrase → Compared
phrase_says p = record { left = says p.left.operand; operator = p.operator; right = says p.right.operand }

-- both operands can be written
abbrev pub ProperPhrase : Phrase → Type 0
ProperPhrase p = ProperWritten p.left.operand × ProperWritten p.right.operand

-- comparisons behind `&&`
abbrev pub more_text : List Phrase → List ℕ
more_text [] = []
more_text (p ∷ more) = codes "&&" ++ (phrase_text p ++ more_text more)

-- a rule in its parts: a comparison, and those behind `&&`
pub record Reading : Type 0 where
  pub first : Phrase
  pub more : List Phrase

-- the text that spells it
abbrev pub spell : Reading → List ℕ
spell r = phrase_text r.first ++ more_text r.more

-- what it says
abbrev pub rule_says : Reading → List Compared
rule_says r = map phrase_says (r.first ∷ r.more)

-- a rule that can be written
abbrev pub Proper : Reading → Type 0
Proper r = AllByRecursion ProperPhrase (r.first ∷ r.more)

-- s spells a rule that says cs
pub record Spells (s : List ℕ) (cs : List Compared) : Type 0 where
  pub reading : Reading
  pub proper : Proper reading
  pub text : spell reading ≡ s
  pub means : rule_says reading ≡ cs

-- `parsed` answers cs for just the texts that spell a rule which says cs; no text is read in two ways; and a rule of n bytes has at most (n + 2) / 5 comparisons
pub record RulesRead : Type 0 where
  pub sound : (s : List ℕ) (cs : List Compared) → parsed s ≡ Some cs → Spells s cs
  pub complete : (s : List ℕ) (cs : List Compared) → Spells s cs → parsed s ≡ Some cs
  pub one_reading : (p q : Reading) → Proper p → Proper q → spell p ≡ spell q → p ≡ q
  pub few : (s : List ℕ) (cs : List Compared) → parsed s ≡ Some cs → 5 * length cs ≤ length s + 2
