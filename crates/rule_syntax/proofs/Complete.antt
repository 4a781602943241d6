-- What is spelled is read.
use Rattle.std.proofs.Common.{◌≡◌, ℕ, zero, suc, ◌+◌, ◌-◌, ◌*◌, ◌^◌, ◌<◌, ◌≤◌, true, false, cond, ◌&&◌, eqb, leb, List, [], ◌∷◌, ◌++◌, map, length, pos, neg_ℤ, Some, None, codes, Option, sym, refl, ap, ◌∙◌, append_assoc, arith, length-append}
use Rattle.std.proofs.lemmas.Int.Digits.{number_after_ge}
use Rattle.std.proofs.lemmas.Slice.Eq.{bytes_eq-Decides}
use Rattle.std.proofs.lemmas.List.{append-nil}
use Rattle.std.proofs.lemmas.Bool.{and_from, le-leb, false≢true}
use Rattle.std.proofs.lemmas.Bool.Decides.{nat_tests}
use Rattle.std.specs.Option.{option_map}
use Rattle.std.specs.Char.{is_ascii_digit}
use Rattle.std.specs.Int.Digits.{number_from_digits, number_from_digits_after}
use Rattle.std.specs.List.{AllByRecursion}
use Rattle.std.specs.Str.{bytes_eq}
use Rattle.rule_syntax.specs.declared.rule.Operator.{Operator}
use Rattle.rule_syntax.specs.declared.rule.Operator.TheVariants.{Eq, Ne, Lt, Le, Gt, Ge}
use Rattle.rule_syntax.specs.Syntax.{Term, int, bool, null, path, Compared, name_byte, proper_name, onto, names_of, every_name, numeric, magnitude, magnitude_from, constant_of, operand_of, unspaced, leading_word, behind_word, leading_operand, leading_operator, leading_comparison, rule_from, parsed}
use Rattle.rule_syntax.specs.Grammar.{Written, plain, minus, truth, falsehood, nothing, named, digits_text, pointed_text, names_text, written_text, says, ProperWritten, Spaced, spaces, spaced_text, operator_text, Phrase, phrase_text, phrase_says, ProperPhrase, more_text, Reading, spell, rule_says, Proper}
use Rattle.rule_syntax.proofs.Options.{cond_some, cond_none}
use Rattle.rule_syntax.proofs.Operands.{number_plain, operand_number, operand_path}
use Rattle.rule_syntax.proofs.Readers.{operand_some, comparison_some}
use Rattle.rule_syntax.proofs.Rules.{rule_end, rule_next}
use Rattle.rule_syntax.proofs.Texts.{Stops, Each, Ends, unspaced_at, word_at, behind_at, end_ends, more_ends, operator_ends, spaces_ends, written_word, operand-begins, spaced_no_equals, name_parts, name_each, proper_each, more_long}

-- ---- names

no_point : (b : ℕ) → name_byte b ≡ true → eqb b 46 ≡ false
no_point b h = grind (arith, nat_tests)

names_at_point : (n s : List ℕ) → Each name_byte n → names_of (n ++ 46 ∷ s) ≡ n ∷ names_of s
names_at_point [] s each = refl
names_at_point (b ∷ n) s each =
    ap (λ c. cond c ([] ∷ names_of (n ++ 46 ∷ s)) (onto b (names_of (n ++ 46 ∷ s)))) (no_point b each.0) ∙ ap (onto b) (names_at_point n s each.1)

names_at_end : (n : List ℕ) → Each name_byte n → names_of n ≡ n ∷ []
names_at_end [] each = refl
names_at_end (b ∷ n) each = ap (λ c. cond c ([] ∷ names_of n) (onto b (names_of n))) (no_point b each.0) ∙ ap (onto b) (names_at_end n each.1)

names_read : (n : List ℕ) (ns : List (List ℕ)) → AllByRecursion (λ n. proper_name n ≡ true) (n ∷ ns) → names_of (n ++ pointed_text ns) ≡ n ∷ ns
names_read n [] all = ap names_of (append-nil n) ∙ names_at_end n (proper_each n all.0)
names_read n (m ∷ ns) all = names_at_point n (m ++ pointed_text ns) (proper_each n all.0) ∙ ap (λ x. n ∷ x) (names_read m ns all.1)

every_read : (ns : List (List ℕ)) → AllByRecursion (λ n. proper_name n ≡ true) ns → every_name ns ≡ true
every_read [] all = refl
every_read (n ∷ ns) all = and_from (proper_name n) (every_name ns) all.0 (every_read ns all.1)

-- no constant is a path
no_path : (w v : List ℕ) → bytes_eq w v ≡ true → every_name (names_of v) ≡ false → every_name (names_of w) ≡ false
no_path w v e h = ap (λ x. every_name (names_of x)) ((bytes_eq-Decides w v).0 e) ∙ h

constant_no_path : (w : List ℕ) (t : Term) → constant_of w ≡ Some t → every_name (names_of w) ≡ false
constant_no_path w t e =
    cond_some (λ _. every_name (names_of w) ≡ false) (bytes_eq w (codes "true")) (bool true) (cond (bytes_eq w (codes "false")) (Some (bool false)) (cond (bytes_eq w (codes "null")) (Some null) None)) t e
    (λ h. no_path w (codes "true") h refl)
    (λ f. cond_some (λ _. every_name (names_of w) ≡ false) (bytes_eq w (codes "false")) (bool false) (cond (bytes_eq w (codes "null")) (Some null) None) t f
    (λ h. no_path w (codes "false") h refl)
    (λ g. no_path w (codes "null") (cond_none (bytes_eq w (codes "null")) (Some null) t g).0 refl))

path_no_constant : (w : List ℕ) (o : Option Term) → constant_of w ≡ o → every_name (names_of w) ≡ true → o ≡ None
path_no_constant w None e h = refl
path_no_constant w (Some t) e h = absurd (false≢true (sym (constant_no_path w t e) ∙ h))

name_no_number : (n rest : List ℕ) → proper_name n ≡ true → numeric (n ++ rest) ≡ false
name_no_number [] rest e = absurd (false≢true e)
name_no_number (b ∷ s) rest e =
    let p = name_parts b s e in
    let d : is_ascii_digit b ≡ false = p.no_digit in
    let h : name_byte b ≡ true = (name_each (b ∷ s) p.bytes).0 in
    grind (arith, nat_tests)

-- ---- numbers

magnitude_read : (m v : ℕ) (ds : List ℕ) → AllByRecursion (λ d. d < 10) ds → number_from_digits_after 10 v ds ≤ m → magnitude_from m v (digits_text ds) ≡ Some (number_from_digits_after 10 v ds)
magnitude_read m v [] all small = refl
magnitude_read m v (d ∷ ds) all small =
    let low : d < 10 = all.0 in
    let digit : is_ascii_digit (48 + d) ≡ true = grind (arith, nat_tests) in
    let e : v * 10 + (48 + d - 48) ≡ v * 10 + d = omega arith in
    let more : v * 10 + d ≤ number_from_digits_after 10 (v * 10 + d) ds = number_after_ge 10 (v * 10 + d) ds (omega arith) in
    let room : leb (v * 10 + (48 + d - 48)) m ≡ true = le-leb (v * 10 + (48 + d - 48)) m (omega arith) in
    ap (λ c. cond c (cond (leb (v * 10 + (48 + d - 48)) m) (magnitude_from m (v * 10 + (48 + d - 48)) (digits_text ds)) None) None) digit
    ∙ ap (λ c. cond c (magnitude_from m (v * 10 + (48 + d - 48)) (digits_text ds)) None) room
    ∙ ap (λ n. magnitude_from m n (digits_text ds)) e
    ∙ magnitude_read m (v * 10 + d) ds all.1 small

digits_read : (m : ℕ) (ds : List ℕ) → AllByRecursion (λ d. d < 10) ds → 0 < length ds → number_from_digits 10 ds ≤ m → magnitude m (digits_text ds) ≡ Some (number_from_digits 10 ds)
digits_read m [] all some small = absurd (omega arith)
digits_read m (d ∷ ds) all some small = magnitude_read m 0 (d ∷ ds) all small

plain_read : (ds : List ℕ) → AllByRecursion (λ d. d < 10) ds → 0 < length ds → number_from_digits 10 ds < 2 ^ 63 → operand_of (digits_text ds) ≡ Some (int (pos (number_from_digits 10 ds)))
plain_read [] all some small = absurd (omega arith)
plain_read (d ∷ ds) all some small =
    let low : d < 10 = all.0 in
    let n : numeric (digits_text (d ∷ ds)) ≡ true = grind (arith, nat_tests) in
    operand_number (digits_text (d ∷ ds)) n
    ∙ ap (option_map int) (number_plain (digits_text (d ∷ ds)) (λ _ e. omega arith) ∙ ap (option_map pos) (digits_read (2 ^ 63 - 1) (d ∷ ds) all some (omega arith)))

-- ---- operands

pub written_read : (w : Written) → ProperWritten w → operand_of (written_text w) ≡ Some (says w)
written_read (plain ds) proper = plain_read ds proper.0 proper.1 proper.2
written_read (minus ds) proper = ap (λ o. option_map int (option_map (λ n. neg_ℤ (pos n)) o)) (digits_read (2 ^ 63) ds proper.0 proper.1 proper.2)
written_read truth proper = refl
written_read falsehood proper = refl
written_read nothing proper = refl
written_read (named []) proper = absurd (omega (arith, proper.0))
written_read (named (n ∷ ns)) proper =
    let w = names_text (n ∷ ns) in
    let r = names_read n ns proper.1 in
    let h : every_name (names_of w) ≡ true = ap every_name r ∙ every_read (n ∷ ns) proper.1 in
    operand_path w (name_no_number n (pointed_text ns) proper.1.0) (path_no_constant w (constant_of w) refl h) h ∙ ap (λ x. Some (path x)) r

pub operand_at : (x : Spaced) (rest : List ℕ) → ProperWritten x.operand → Ends rest → leading_operand (spaced_text x ++ rest) ≡ Some (says x.operand, rest)
operand_at x rest proper ends =
    let w = written_text x.operand in
    let t = w ++ (spaces x.behind ++ rest) in
    let s = spaces x.before ++ t in
    let e : spaced_text x ++ rest ≡ s = append_assoc (spaces x.before) (w ++ spaces x.behind) rest ∙ ap (λ y. spaces x.before ++ y) (append_assoc w (spaces x.behind) rest) in
    let u : unspaced s ≡ t = unspaced_at x.before t (operand-begins x.operand (spaces x.behind ++ rest) proper) in
    let each = written_word x.operand proper in
    let stops = spaces_ends x.behind rest ends in
    let k : operand_of (leading_word (unspaced s)) ≡ Some (says x.operand) = ap (λ y. operand_of (leading_word y)) u ∙ ap operand_of (word_at w (spaces x.behind ++ rest) each stops) ∙ written_read x.operand proper in
    let b : unspaced (behind_word (unspaced s)) ≡ rest = ap (λ y. unspaced (behind_word y)) u ∙ ap unspaced (behind_at w (spaces x.behind ++ rest) each stops) ∙ unspaced_at x.behind rest ends.space_ends in
    ap leading_operand e ∙ operand_some s (says x.operand) k ∙ ap (λ y. Some (says x.operand, y)) b

-- ---- operators

less_at : (t : List ℕ) → Stops (λ b. eqb 61 b) t → leading_operator (60 ∷ t) ≡ Some (Lt, t)
less_at [] stops = refl
less_at (b ∷ t) stops = ap (λ c. cond (c && true) (Some (Le, t)) (Some (Lt, b ∷ t))) stops

more_at : (t : List ℕ) → Stops (λ b. eqb 61 b) t → leading_operator (62 ∷ t) ≡ Some (Gt, t)
more_at [] stops = refl
more_at (b ∷ t) stops = ap (λ c. cond (c && true) (Some (Ge, t)) (Some (Gt, b ∷ t))) stops

pub operator_at : (o : Operator) (t : List ℕ) → Stops (λ b. eqb 61 b) t → leading_operator (operator_text o ++ t) ≡ Some (o, t)
operator_at Eq t stops = refl
operator_at Ne t stops = refl
operator_at Lt t stops = less_at t stops
operator_at Le t stops = refl
operator_at Gt t stops = more_at t stops
operator_at Ge t stops = refl

-- ---- comparisons and rules

pub comparison_at : (p : Phrase) (rest : List ℕ) → ProperPhrase p → Ends rest → leading_comparison (phrase_text p ++ rest) ≡ Some (phrase_says p, rest)
comparison_at p rest proper ends =
    let l = spaced_text p.left in
    let o = operator_text p.operator in
    let r = spaced_text p.right in
    let e : phrase_text p ++ rest ≡ l ++ (o ++ (r ++ rest)) = append_assoc l (o ++ r) rest ∙ ap (λ y. l ++ y) (append_assoc o r rest) in
    ap leading_comparison e
    ∙ comparison_some (l ++ (o ++ (r ++ rest))) (says p.left.operand, o ++ (r ++ rest)) (p.operator, r ++ rest) (says p.right.operand, rest)
    (operand_at p.left (o ++ (r ++ rest)) proper.0 (operator_ends p.operator (r ++ rest)))
    (operator_at p.operator (r ++ rest) (spaced_no_equals p.right rest proper.1))
    (operand_at p.right rest proper.1 ends)

rule_at : (k : ℕ) (done : List Compared) (p : Phrase) (ps : List Phrase) → AllByRecursion ProperPhrase (p ∷ ps) → length ps < k → rule_from k done (phrase_text p ++ more_text ps) ≡ Some (done ++ map phrase_says (p ∷ ps))
rule_at k done p [] proper few = rule_end k done (phrase_text p ++ []) (phrase_says p, []) (omega arith) (comparison_at p [] proper.0 end_ends) refl
rule_at zero done p (q ∷ ps) proper few = absurd (omega arith)
rule_at (suc k) done p (q ∷ ps) proper few =
    rule_next k done (phrase_text p ++ more_text (q ∷ ps)) (phrase_says p, more_text (q ∷ ps)) (phrase_text q ++ more_text ps) (comparison_at p (more_text (q ∷ ps)) proper.0 (more_ends (q ∷ ps))) (omega arith) refl
    ∙ rule_at k (done ++ phrase_says p ∷ []) q ps proper.1 (omega arith)
    ∙ ap (λ x. Some x) (append_assoc done (phrase_says p ∷ []) (map phrase_says (q ∷ ps)))

pub rule_read : (r : Reading) → Proper r → parsed (spell r) ≡ Some (rule_says r)
unfolding parsed
rule_read r proper =
    rule_at (length (spell r) + 1) [] r.first r.more proper
    (omega (arith, length-append (phrase_text r.first) (more_text r.more), more_long r.more proper.1))
