-- What a rule says, as it is read from left to right.
use Rattle.std.specs.Prelude.{◌≡◌, ℕ, zero, suc, ◌+◌, ◌-◌, ◌*◌, ◌^◌, ◌<◌, Bool, true, false, cond, not, ◌&&◌, ◌||◌, List, [], ◌∷◌, ◌++◌, map, length, take, drop, ℤ, pos, neg_ℤ, Some, None, Ok, Err, codes, Option, Result, ◌==◌, nat_le}
use Rattle.std.specs.Borrow.{Bor}
use Rattle.std.specs.Option.{option_map}
use Rattle.std.specs.Char.{is_ascii_alphanumeric, is_ascii_digit}
use Rattle.std.specs.List.{prefix_len}
use Rattle.std.specs.Str.{bytes_eq}
use Rattle.fixed.specs.declared.slice.Slice.{Slice}
use Rattle.escaping.specs.Escape.{reserved}
use Rattle.rule_syntax.specs.declared.rule.Comparison.{Comparison}
use Rattle.rule_syntax.specs.declared.rule.Operand.{Operand}
use Rattle.rule_syntax.specs.declared.rule.Operand.TheVariants as code
use Rattle.rule_syntax.specs.declared.rule.Operator.{Operator}
use Rattle.rule_syntax.specs.declared.rule.Operator.TheVariants.{Eq, Ne, Lt, Le, Gt, Ge}
use Rattle.rule_syntax.specs.declared.rule.Refused.{Refused}
use Rattle.rule_syntax.specs.declared.rule.Refused.TheVariants.{Syntax, Full}
use Rattle.rule_syntax.specs.declared.rule.Span.{Span}

-- ---- what a rule says

-- one side of a comparison; a path is its names
pub data Term : Type 0 where
  int : ℤ → Term
  bool : Bool → Term
  null : Term
  path : List (List ℕ) → Term

-- two sides and how they are compared; a rule is one of these or more
pub record Compared : Type 0 where
  pub left : Term
  pub operator : Operator
  pub right : Term

-- ---- words

-- what f answers to the value in o, if there is one
abbrev pub then : {A B : Type 0} → Option A → (A → Option B) → Option B
then None f = None
then (Some x) f = f x

-- an ASCII letter, a digit or `_`
abbrev pub name_byte : ℕ → Bool
name_byte b = is_ascii_alphanumeric b || b == 95

-- a byte that operands are written with: one of a name, the point or the minus
abbrev pub word_byte : ℕ → Bool
word_byte b = name_byte b || (b == 46 || b == 45)

-- the longest front of s of such bytes
abbrev pub leading_word : List ℕ → List ℕ
leading_word s = take (prefix_len word_byte s) s

-- what follows it
abbrev pub behind_word : List ℕ → List ℕ
behind_word s = drop (prefix_len word_byte s) s

-- s without the spaces at its front
abbrev pub unspaced : List ℕ → List ℕ
unspaced s = drop (prefix_len (λ b. b == 32) s) s

-- ---- numbers

-- v and then the digits s, if all of s are digits and the number stays at most `most`
abbrev pub magnitude_from : ℕ → ℕ → List ℕ → Option ℕ
magnitude_from most v [] = Some v
magnitude_from most v (b ∷ s) = cond (is_ascii_digit b) (cond (nat_le (v * 10 + (b - 48)) most) (magnitude_from most (v * 10 + (b - 48)) s) None) None

-- the number that digits write, one at least
abbrev pub magnitude : ℕ → List ℕ → Option ℕ
magnitude most [] = None
magnitude most (b ∷ s) = magnitude_from most 0 (b ∷ s)

-- digits behind a minus or without one; 64 bits hold the number
abbrev pub number_of : List ℕ → Option ℤ
number_of [] = None
number_of (b ∷ s) = cond (b == 45) (option_map (λ n. neg_ℤ (pos n)) (magnitude (2 ^ 63) s)) (option_map pos (magnitude (2 ^ 63 - 1) (b ∷ s)))

-- ---- paths

-- b before the first of these names
abbrev pub onto : ℕ → List (List ℕ) → List (List ℕ)
onto b [] = (b ∷ []) ∷ []
onto b (n ∷ ns) = (b ∷ n) ∷ ns

-- what stands between the points of s
abbrev pub names_of : List ℕ → List (List ℕ)
names_of [] = [] ∷ []
names_of (b ∷ s) = cond (b == 46) ([] ∷ names_of s) (onto b (names_of s))

-- what stands before the first point
abbrev pub before_dot : List ℕ → List ℕ
before_dot [] = []
before_dot (b ∷ s) = cond (b == 46) [] (b ∷ before_dot s)

-- what stands behind it, if there is one
abbrev pub past_dot : List ℕ → Option (List ℕ)
past_dot [] = None
past_dot (b ∷ s) = cond (b == 46) (Some s) (past_dot s)

-- each byte is one that names are made of
abbrev pub name_bytes : List ℕ → Bool
name_bytes [] = true
name_bytes (b ∷ s) = name_byte b && name_bytes s

-- 1 to 255 bytes of names, the first no digit, and no reserved word
abbrev pub proper_name : List ℕ → Bool
proper_name [] = false
proper_name (b ∷ s) = not (is_ascii_digit b) && (nat_le (length (b ∷ s)) 255 && (name_bytes (b ∷ s) && not (reserved (b ∷ s))))

-- each of these is a name
abbrev pub every_name : List (List ℕ) → Bool
every_name [] = true
every_name (n ∷ ns) = proper_name n && every_name ns

-- ---- operands

-- what a word says as a constant
abbrev pub constant_of : List ℕ → Option Term
constant_of w = cond (bytes_eq w (codes "true")) (Some (bool true)) (cond (bytes_eq w (codes "false")) (Some (bool false)) (cond (bytes_eq w (codes "null")) (Some null) None))

-- a number begins with a digit or the minus
abbrev pub numeric : List ℕ → Bool
numeric [] = false
numeric (b ∷ s) = is_ascii_digit b || b == 45

-- what a word says as a path
abbrev pub path_of : List ℕ → Option Term
path_of w = cond (every_name (names_of w)) (Some (path (names_of w))) None

-- the first of two answers, or else the second
abbrev pub or_else : {A : Type 0} → Option A → Option A → Option A
or_else None p = p
or_else (Some x) p = Some x

-- what a word says as an operand
abbrev pub operand_of : List ℕ → Option Term
operand_of w = cond (numeric w) (option_map int (number_of w)) (or_else (constant_of w) (path_of w))

-- ---- what the program holds

-- the bytes of a part of s
abbrev pub part : Slice → List ℕ → List ℕ
part p s = take p.len (drop p.start s)

-- what an operand that was read from s says
abbrev pub meant_operand : List ℕ → Operand → Term
meant_operand s (code.Int z) = int z
meant_operand s (code.Bool b) = bool b
meant_operand s code.Null = null
meant_operand s (code.Path p) = path (names_of (part p s))

-- and a comparison
abbrev pub meant : List ℕ → Comparison → Compared
meant s c = record { left = meant_operand s c.left; operator = c.operator; right = meant_operand s c.right }

-- t ends s
abbrev pub Within : List ℕ → List ℕ → Type 0
Within s t = drop (length s - length t) s ≡ t

-- what is read, by its meaning, with what its reference to the text behind it points to
abbrev pub seen : {A B : Type 0} → (A → B) → Option (A × Bor (List ℕ)) → Option (B × List ℕ)
seen f r = option_map (λ p. (f p.0, p.1.now)) r

-- the same of a reader that has `rest` left then
abbrev pub reads : {A B : Type 0} → (A → B) → Option A → List ℕ → Option (B × List ℕ)
reads f r rest = option_map (λ x. (f x, rest)) r

-- what it has left, where it found what it was to pass over
abbrev pub left_by : {A : Type 0} → Option A → List ℕ → Option (List ℕ)
left_by r rest = option_map (λ _. rest) r

-- ---- comparisons

-- s begins with the bytes p
abbrev pub begins : List ℕ → List ℕ → Bool
begins [] s = true
begins (x ∷ p) [] = false
begins (x ∷ p) (y ∷ s) = x == y && begins p s

-- the operators as they are written, the longer ones first
abbrev pub operators : List (List ℕ × Operator)
operators = (codes "==", Eq) ∷ (codes "!=", Ne) ∷ (codes "<=", Le) ∷ (codes ">=", Ge) ∷ (codes "<", Lt) ∷ (codes ">", Gt) ∷ []

-- the first of these operators that s begins with, and what follows it
abbrev pub operator_of : List (List ℕ × Operator) → List ℕ → Option (Operator × List ℕ)
operator_of [] s = None
operator_of (x ∷ more) s = cond (begins x.0 s) (Some (x.1, drop (length x.0) s)) (operator_of more s)

-- the operator at the front of s, and what follows it
abbrev pub leading_operator : List ℕ → Option (Operator × List ℕ)
leading_operator s = operator_of operators s

-- the operand at the front of s with the spaces around it, and what follows them
unfoldable pub leading_operand : List ℕ → Option (Term × List ℕ)
leading_operand s = option_map (λ t. (t, unspaced (behind_word (unspaced s)))) (operand_of (leading_word (unspaced s)))

-- the comparison at the front of s, and what follows it
unfoldable pub leading_comparison : List ℕ → Option (Compared × List ℕ)
leading_comparison s =
    then (leading_operand s) (λ l. then (leading_operator l.1) (λ o. option_map (λ r. (record { left = l.0; operator = o.0; right = r.0 }, r.1)) (leading_operand o.1)))

-- ---- rules

-- what follows the `&&` at the front of s
abbrev pub behind_and : List ℕ → Option (List ℕ)
behind_and s = cond (begins (codes "&&") s) (Some (drop 2 s)) None

-- the comparisons `done` and then those of s, fewer than k
unfoldable pub rule_from : ℕ → List Compared → List ℕ → Option (List Compared)
rule_from zero done s = None
rule_from (suc k) done s =
    then (leading_comparison s) (λ c. cond (length c.1 == 0) (Some (done ++ c.0 ∷ [])) (then (behind_and c.1) (λ t. rule_from k (done ++ c.0 ∷ []) t)))

-- the comparisons of the rule s, if it is one: no more than it has bytes
unfoldable pub parsed : List ℕ → Option (List Compared)
parsed s = rule_from (length s + 1) [] s

-- ---- what is answered

-- what is answered of a rule, what stood in the table before, and what is read onto it; the table has room for `room`
abbrev pub told : ℕ → List Comparison → Option (List Compared) → Result Span Refused × (List Comparison × List Compared)
told room before None = (Err Syntax, (before, []))
told room before (Some cs) = cond (nat_le (length before + length cs) room) (Ok (record { start = length before; len = length cs }), (before, cs)) (Err Full, (before, []))

-- the answer r, with the first n comparisons of the table after it, and what those behind say in s
abbrev pub answered : List ℕ → ℕ → Result Span Refused → List Comparison → Result Span Refused × (List Comparison × List Compared)
answered s n r after = (r, (take n after, map (meant s) (drop n after)))

-- the same before what is in vain has been taken from the table again
abbrev pub Filled : ℕ → List ℕ → List Comparison → Result (Unit {0}) Refused → List Comparison → Type 0
Filled room s before (Ok u) after = (cs : List Comparison) × (parsed s ≡ Some (map (meant s) cs)) × (after ≡ before ++ cs)
Filled room s before (Err Syntax) after = (parsed s ≡ None) × (take (length before) after ≡ before)
Filled room s before (Err Full) after = (cs : List Comparison) × (parsed s ≡ Some (map (meant s) cs)) × (room < length before + length cs) × (take (length before) after ≡ before)
