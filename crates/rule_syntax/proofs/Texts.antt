-- Where the parts of a spelled rule begin and end.
use Rattle.std.proofs.Common.{◌≡◌, ℕ, zero, suc, ◌+◌, ◌*◌, ◌<◌, ◌≤◌, Bool, true, false, cond, not, ◌&&◌, ◌||◌, eqb, leb, List, [], ◌∷◌, ◌++◌, length, take, drop, codes, sym, refl, ap, ◌∙◌, subst, append_assoc, one-add, arith, length-append}
use Rattle.std.proofs.lemmas.List.{take_at, drop_at, length-map}
use Rattle.std.proofs.lemmas.Bool.{and_parts, or_left, not-true, true≢false}
use Rattle.std.proofs.lemmas.Bool.Decides.{nat_tests}
use Rattle.std.specs.Char.{is_ascii_digit}
use Rattle.std.specs.List.{prefix_len, AllByRecursion}
use Rattle.escaping.specs.Escape.{reserved}
use Rattle.rule_syntax.specs.declared.rule.Operator.{Operator}
use Rattle.rule_syntax.specs.declared.rule.Operator.TheVariants.{Eq, Ne, Lt, Le, Gt, Ge}
use Rattle.rule_syntax.specs.Syntax.{name_byte, word_byte, name_bytes, proper_name, unspaced, leading_word, behind_word}
use Rattle.rule_syntax.specs.Grammar.{Written, plain, minus, truth, falsehood, nothing, named, digits_text, pointed_text, names_text, written_text, ProperWritten, Spaced, spaces, spaced_text, operator_text, Phrase, phrase_text, ProperPhrase, more_text}

-- p fails at the first byte, if there is one
abbrev pub Stops : (ℕ → Bool) → List ℕ → Type 0
Stops p [] = Unit {0}
Stops p (b ∷ s) = p b ≡ false

abbrev pub space : ℕ → Bool
space b = eqb b 32

-- p holds of each byte
abbrev pub Each : (ℕ → Bool) → List ℕ → Type 0
Each p w = AllByRecursion (λ b. p b ≡ true) w

pub leading_at : (p : ℕ → Bool) (w rest : List ℕ) → Each p w → Stops p rest → prefix_len p (w ++ rest) ≡ length w
leading_at p [] [] each stops = refl
leading_at p [] (b ∷ s) each stops = ap (λ c. cond c (1 + prefix_len p s) 0) stops
leading_at p (b ∷ w) rest each stops =
    ap (λ c. cond c (1 + prefix_len p (w ++ rest)) 0) each.0 ∙ one-add (prefix_len p (w ++ rest)) ∙ ap suc (leading_at p w rest each.1 stops)

pub each_space : (n : ℕ) → Each space (spaces n)
each_space zero = tt
each_space (suc n) = (refl, each_space n)

pub unspaced_at : (n : ℕ) (rest : List ℕ) → Stops space rest → unspaced (spaces n ++ rest) ≡ rest
unspaced_at n rest stops =
    ap (λ k. drop k (spaces n ++ rest)) (leading_at space (spaces n) rest (each_space n) stops) ∙ drop_at (spaces n) rest (length (spaces n)) refl

pub word_at : (w rest : List ℕ) → Each word_byte w → Stops word_byte rest → leading_word (w ++ rest) ≡ w
word_at w rest each stops = ap (λ k. take k (w ++ rest)) (leading_at word_byte w rest each stops) ∙ take_at w rest (length w) refl

pub behind_at : (w rest : List ℕ) → Each word_byte w → Stops word_byte rest → behind_word (w ++ rest) ≡ rest
behind_at w rest each stops = ap (λ k. drop k (w ++ rest)) (leading_at word_byte w rest each stops) ∙ drop_at w rest (length w) refl

-- neither a space nor an operand stands first
pub record Ends (s : List ℕ) : Type 0 where
  pub space_ends : Stops space s
  pub word_ends : Stops word_byte s

pub end_ends : Ends []
end_ends = record { space_ends = tt; word_ends = tt }

pub and_ends : (s : List ℕ) → Ends (codes "&&" ++ s)
and_ends s = record { space_ends = refl; word_ends = refl }

pub operator_ends : (o : Operator) (s : List ℕ) → Ends (operator_text o ++ s)
operator_ends Eq s = record { space_ends = refl; word_ends = refl }
operator_ends Ne s = record { space_ends = refl; word_ends = refl }
operator_ends Lt s = record { space_ends = refl; word_ends = refl }
operator_ends Le s = record { space_ends = refl; word_ends = refl }
operator_ends Gt s = record { space_ends = refl; word_ends = refl }
operator_ends Ge s = record { space_ends = refl; word_ends = refl }

pub more_ends : (ps : List Phrase) → Ends (more_text ps)
more_ends [] = end_ends
more_ends (p ∷ ps) = and_ends (phrase_text p ++ more_text ps)

pub spaces_ends : (n : ℕ) (s : List ℕ) → Ends s → Stops word_byte (spaces n ++ s)
spaces_ends zero s ends = ends.word_ends
spaces_ends (suc n) s ends = refl

-- ---- the bytes of operands

pub each_append : (p : ℕ → Bool) (xs ys : List ℕ) → Each p xs → Each p ys → Each p (xs ++ ys)
each_append p [] ys x y = y
each_append p (b ∷ xs) ys x y = (x.0, each_append p xs ys x.1 y)

digits_word : (ds : List ℕ) → AllByRecursion (λ d. d < 10) ds → Each word_byte (digits_text ds)
digits_word [] all = tt
digits_word (d ∷ ds) all = let small : d < 10 = all.0 in (grind (arith, nat_tests), digits_word ds all.1)

pub name_each : (n : List ℕ) → name_bytes n ≡ true → Each name_byte n
name_each [] e = tt
name_each (b ∷ n) e = let h = and_parts (name_byte b) (name_bytes n) e in (h.0, name_each n h.1)

name_word : (n : List ℕ) → Each name_byte n → Each word_byte n
name_word [] e = tt
name_word (b ∷ n) e = (or_left (name_byte b) (eqb b 46 || eqb b 45) e.0, name_word n e.1)

-- a name in its parts
pub record Named (b : ℕ) (s : List ℕ) : Type 0 where
  pub no_digit : is_ascii_digit b ≡ false
  pub bytes : name_bytes (b ∷ s) ≡ true

pub name_parts : (b : ℕ) (s : List ℕ) → proper_name (b ∷ s) ≡ true → Named b s
name_parts b s e =
    let h = and_parts (not (is_ascii_digit b)) (leb (length (b ∷ s)) 255 && (name_bytes (b ∷ s) && not (reserved (b ∷ s)))) e in
    let k = and_parts (leb (length (b ∷ s)) 255) (name_bytes (b ∷ s) && not (reserved (b ∷ s))) h.1 in
    let m = and_parts (name_bytes (b ∷ s)) (not (reserved (b ∷ s))) k.1 in
    record { no_digit = not-true (is_ascii_digit b) h.0; bytes = m.0 }

pub proper_each : (n : List ℕ) → proper_name n ≡ true → Each name_byte n
proper_each [] e = tt
proper_each (b ∷ s) e = name_each (b ∷ s) (name_parts b s e).bytes

pub proper_some : (n : List ℕ) → proper_name n ≡ true → 0 < length n
proper_some [] e = absurd (true≢false (sym e))
proper_some (b ∷ s) e = omega arith

pointed_word : (ns : List (List ℕ)) → AllByRecursion (λ n. proper_name n ≡ true) ns → Each word_byte (pointed_text ns)
pointed_word [] all = tt
pointed_word (n ∷ ns) all = (refl, each_append word_byte n (pointed_text ns) (name_word n (proper_each n all.0)) (pointed_word ns all.1))

names_word : (ns : List (List ℕ)) → AllByRecursion (λ n. proper_name n ≡ true) ns → Each word_byte (names_text ns)
names_word [] all = tt
names_word (n ∷ ns) all = each_append word_byte n (pointed_text ns) (name_word n (proper_each n all.0)) (pointed_word ns all.1)

pub written_word : (w : Written) → ProperWritten w → Each word_byte (written_text w)
written_word (plain ds) proper = digits_word ds proper.0
written_word (minus ds) proper = (refl, digits_word ds proper.0)
written_word truth proper = (refl, (refl, (refl, (refl, tt))))
written_word falsehood proper = (refl, (refl, (refl, (refl, (refl, tt)))))
written_word nothing proper = (refl, (refl, (refl, (refl, tt))))
written_word (named ns) proper = names_word ns proper.1

pub written_some : (w : Written) → ProperWritten w → 0 < length (written_text w)
written_some (plain ds) proper = omega (arith, length-map ds (λ d. 48 + d), proper.1)
written_some (minus ds) proper = omega arith
written_some truth proper = omega arith
written_some falsehood proper = omega arith
written_some nothing proper = omega arith
written_some (named []) proper = absurd (omega (arith, proper.0))
written_some (named (n ∷ ns)) proper = omega (arith, length-append n (pointed_text ns), proper_some n proper.1.0)

-- what starts with an operand starts with neither a space nor `=`
word_begins : (w rest : List ℕ) → 0 < length w → Each word_byte w → Stops space (w ++ rest) × Stops (λ b. eqb 61 b) (w ++ rest)
word_begins [] rest some each = absurd (omega arith)
word_begins (b ∷ w) rest some each = let h : word_byte b ≡ true = each.0 in (grind (arith, nat_tests), grind (arith, nat_tests))

pub operand-begins : (w : Written) (rest : List ℕ) → ProperWritten w → Stops space (written_text w ++ rest)
operand-begins w rest proper = (word_begins (written_text w) rest (written_some w proper) (written_word w proper)).0

operand_no_equals : (n : ℕ) (w : Written) (rest : List ℕ) → ProperWritten w → Stops (λ b. eqb 61 b) (spaces n ++ (written_text w ++ rest))
operand_no_equals zero w rest proper = (word_begins (written_text w) rest (written_some w proper) (written_word w proper)).1
operand_no_equals (suc n) w rest proper = refl

pub spaced_no_equals : (x : Spaced) (rest : List ℕ) → ProperWritten x.operand → Stops (λ b. eqb 61 b) (spaced_text x ++ rest)
spaced_no_equals x rest proper =
    subst (Stops (λ b. eqb 61 b))
    (sym (append_assoc (spaces x.before) (written_text x.operand ++ spaces x.behind) rest ∙ ap (λ t. spaces x.before ++ t) (append_assoc (written_text x.operand) (spaces x.behind) rest)))
    (operand_no_equals x.before x.operand (spaces x.behind ++ rest) proper)

-- ---- lengths

operator_some : (o : Operator) → 0 < length (operator_text o)
operator_some Eq = omega arith
operator_some Ne = omega arith
operator_some Lt = omega arith
operator_some Le = omega arith
operator_some Gt = omega arith
operator_some Ge = omega arith

spaced_some : (x : Spaced) → ProperWritten x.operand → 0 < length (spaced_text x)
spaced_some x proper =
    omega (arith, length-append (spaces x.before) (written_text x.operand ++ spaces x.behind), length-append (written_text x.operand) (spaces x.behind), written_some x.operand proper)

pub phrase_long : (p : Phrase) → ProperPhrase p → 3 ≤ length (phrase_text p)
phrase_long p proper =
    omega (arith, length-append (spaced_text p.left) (operator_text p.operator ++ spaced_text p.right), length-append (operator_text p.operator) (spaced_text p.right), spaced_some p.left proper.0, spaced_some p.right proper.1, operator_some p.operator)

pub more_long : (ps : List Phrase) → AllByRecursion ProperPhrase ps → 5 * length ps ≤ length (more_text ps)
more_long [] proper = omega arith
more_long (p ∷ ps) proper = omega (arith, length-append (phrase_text p) (more_text ps), phrase_long p proper.0, more_long ps proper.1)
