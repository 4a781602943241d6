-- What is read is spelled.
use Rattle.std.proofs.Common.{◌≡◌, ℕ, zero, suc, ◌+◌, ◌-◌, ◌*◌, ◌^◌, ◌<◌, ◌≤◌, Bool, true, false, cond, eqb, leb, List, [], ◌∷◌, ◌++◌, map, length, drop, ℤ, pos, neg_ℤ, Some, None, codes, Option, sym, refl, ap, ◌∙◌, subst, append_assoc, one-add, arith}
use Rattle.std.proofs.lemmas.Slice.Eq.{bytes_eq-Decides}
use Rattle.std.proofs.lemmas.List.{take-append-drop, length-map}
use Rattle.std.proofs.lemmas.Bool.{eqb-true, and_parts, false≢true}
use Rattle.std.proofs.lemmas.Bool.Decides.{nat_tests}
use Rattle.std.specs.Option.{option_map}
use Rattle.std.specs.Char.{is_ascii_digit}
use Rattle.std.specs.Int.Digits.{number_from_digits, number_from_digits_after}
use Rattle.std.specs.List.{prefix_len, AllByRecursion}
use Rattle.std.specs.Str.{bytes_eq}
use Rattle.rule_syntax.specs.declared.rule.Operator.{Operator}
use Rattle.rule_syntax.specs.Syntax.{Term, int, bool, null, path, Compared, then, word_byte, proper_name, onto, names_of, every_name, numeric, magnitude, magnitude_from, number_of, constant_of, path_of, or_else, operand_of, unspaced, leading_word, behind_word, leading_operand, begins, operators, operator_of, leading_operator, leading_comparison, behind_and, rule_from, parsed, before_dot, past_dot}
use Rattle.rule_syntax.specs.Grammar.{Written, plain, minus, truth, falsehood, nothing, named, digits_text, pointed_text, names_text, written_text, says, ProperWritten, Spaced, spaces, spaced_text, operator_text, Phrase, phrase_text, phrase_says, ProperPhrase, more_text, Spells}
use Rattle.rule_syntax.proofs.Options.{not_some, some_same, then_some, mapped_some, cond_some, cond_none}
use Rattle.rule_syntax.proofs.Names.{names_split, more_names}
use Rattle.rule_syntax.proofs.Operands.{magnitude-below, operand_number, operand_other}
use Rattle.rule_syntax.proofs.Readers.{operand-parts, Sides, comparison_parts}
use Rattle.rule_syntax.proofs.Rules.{goes_on, rule_turn, rule_zero, and_parts_of}
use Rattle.rule_syntax.proofs.Texts.{space}

-- ---- spaces

spaces_by : (b : ℕ) (s : List ℕ) (t : Bool) → eqb b 32 ≡ t → (n : ℕ) × (s ≡ spaces n ++ unspaced s) → (n : ℕ) × (b ∷ s ≡ spaces n ++ drop (cond t (1 + prefix_len space s) 0) (b ∷ s))
spaces_by b s true e (n, h) =
    (suc n, ap (λ x. x ∷ s) (eqb-true b 32 e) ∙ ap (λ x. 32 ∷ x) h ∙ ap (λ k. 32 ∷ (spaces n ++ drop k (b ∷ s))) (sym (one-add (prefix_len space s))))
spaces_by b s false e h = (0, refl)

unspaced_sound : (s : List ℕ) → (n : ℕ) × (s ≡ spaces n ++ unspaced s)
unspaced_sound [] = (0, refl)
unspaced_sound (b ∷ s) = spaces_by b s (eqb b 32) refl (unspaced_sound s)

-- ---- numbers

-- digits behind the number v
record DigitsRead (v : ℕ) (s : List ℕ) (n : ℕ) : Type 0 where
  read : List ℕ
  proper : AllByRecursion (λ d. d < 10) read
  text : digits_text read ≡ s
  value_is : number_from_digits_after 10 v read ≡ n

digits_sound : (m v : ℕ) (s : List ℕ) (n : ℕ) → magnitude_from m v s ≡ Some n → DigitsRead v s n
digits_sound m v [] n e = record { read = []; proper = tt; text = refl; value_is = some_same v n e }
digits_sound m v (b ∷ s) n e =
    let d = cond_none (is_ascii_digit b) (cond (leb (v * 10 + (b - 48)) m) (magnitude_from m (v * 10 + (b - 48)) s) None) n e in
    let k = cond_none (leb (v * 10 + (b - 48)) m) (magnitude_from m (v * 10 + (b - 48)) s) n d.1 in
    let r = digits_sound m (v * 10 + (b - 48)) s n k.1 in
    let h : is_ascii_digit b ≡ true = d.0 in
    let small : b - 48 < 10 = grind (arith, nat_tests) in
    let back : 48 + (b - 48) ≡ b = grind (arith, nat_tests) in
    record { read = (b - 48) ∷ r.read; proper = (small, r.proper); text = (λ i. back i ∷ r.text i); value_is = r.value_is }

-- digits that are a number
record NumberRead (m : ℕ) (s : List ℕ) (n : ℕ) : Type 0 where
  read : List ℕ
  proper : AllByRecursion (λ d. d < 10) read
  some : 0 < length read
  text : digits_text read ≡ s
  value_is : number_from_digits 10 read ≡ n
  small : n ≤ m

magnitude_sound : (m : ℕ) (s : List ℕ) (n : ℕ) → magnitude m s ≡ Some n → NumberRead m s n
magnitude_sound m [] n e = not_some n e
magnitude_sound m (b ∷ s) n e =
    let r = digits_sound m 0 (b ∷ s) n e in
    record { read = r.read; proper = r.proper; some = omega (arith, ap length r.text, length-map r.read (λ d. 48 + d)); text = r.text; value_is = r.value_is; small = magnitude-below m (b ∷ s) n e }

-- an operand as it is written
pub record WrittenRead (w : List ℕ) (x : Term) : Type 0 where
  pub read : Written
  pub proper : ProperWritten read
  pub text : written_text read ≡ w
  pub means : says read ≡ x

minus_sound : (s : List ℕ) (z : ℤ) → option_map (λ n. neg_ℤ (pos n)) (magnitude (2 ^ 63) s) ≡ Some z → WrittenRead (45 ∷ s) (int z)
minus_sound s z e =
    let m = mapped_some (λ n. neg_ℤ (pos n)) (magnitude (2 ^ 63) s) z e in
    let r = magnitude_sound (2 ^ 63) s m.0 m.1 in
    record {
      read = minus r.read;
      proper = (r.proper, r.some, omega (arith, r.value_is, r.small));
      text = ap (λ t. 45 ∷ t) r.text;
      means = ap (λ n. int (neg_ℤ (pos n))) r.value_is ∙ ap int m.2;
    }

plain_sound : (s : List ℕ) (z : ℤ) → option_map pos (magnitude (2 ^ 63 - 1) s) ≡ Some z → WrittenRead s (int z)
plain_sound s z e =
    let m = mapped_some pos (magnitude (2 ^ 63 - 1) s) z e in
    let r = magnitude_sound (2 ^ 63 - 1) s m.0 m.1 in
    record {
      read = plain r.read;
      proper = (r.proper, r.some, omega (arith, r.value_is, r.small));
      text = r.text;
      means = ap (λ n. int (pos n)) r.value_is ∙ ap int m.2;
    }

number_by : (b : ℕ) (s : List ℕ) (z : ℤ) (t : Bool) → eqb b 45 ≡ t → cond t (option_map (λ n. neg_ℤ (pos n)) (magnitude (2 ^ 63) s)) (option_map pos (magnitude (2 ^ 63 - 1) (b ∷ s))) ≡ Some z → WrittenRead (b ∷ s) (int z)
number_by b s z true h e = let P : ℕ → Type 0 = λ x. WrittenRead (x ∷ s) (int z) in subst P (sym (eqb-true b 45 h)) (minus_sound s z e)
number_by b s z false h e = plain_sound (b ∷ s) z e

number_sound : (w : List ℕ) (z : ℤ) → number_of w ≡ Some z → WrittenRead w (int z)
number_sound [] z e = not_some z e
number_sound (b ∷ s) z e = number_by b s z (eqb b 45) refl e

-- ---- constants

constant_sound : (w : List ℕ) (x : Term) → constant_of w ≡ Some x → WrittenRead w x
constant_sound w x e =
    cond_some (WrittenRead w) (bytes_eq w (codes "true")) (bool true) (cond (bytes_eq w (codes "false")) (Some (bool false)) (cond (bytes_eq w (codes "null")) (Some null) None)) x e
    (λ h. record { read = truth; proper = tt; text = sym ((bytes_eq-Decides w (codes "true")).0 h); means = refl })
    (λ f. cond_some (WrittenRead w) (bytes_eq w (codes "false")) (bool false) (cond (bytes_eq w (codes "null")) (Some null) None) x f
    (λ h. record { read = falsehood; proper = tt; text = sym ((bytes_eq-Decides w (codes "false")).0 h); means = refl })
    (λ g. cond_some (WrittenRead w) (bytes_eq w (codes "null")) null None x g
    (λ h. record { read = nothing; proper = tt; text = sym ((bytes_eq-Decides w (codes "null")).0 h); means = refl })
    (λ h. not_some x h)))

-- ---- paths

onto_text : (b : ℕ) (ns : List (List ℕ)) → 0 < length ns → names_text (onto b ns) ≡ b ∷ names_text ns
onto_text b [] h = absurd (omega arith)
onto_text b (n ∷ ns) h = refl

pointed_again : (ns : List (List ℕ)) → 0 < length ns → pointed_text ns ≡ 46 ∷ names_text ns
pointed_again [] h = absurd (omega arith)
pointed_again (n ∷ ns) h = refl

names_some : (s : List ℕ) → 0 < length (names_of s)
names_some s = let h : length (names_of s) ≡ length (before_dot s ∷ more_names (past_dot s)) = ap length (names_split s) in omega arith

joined_by : (b : ℕ) (s : List ℕ) (t : Bool) → eqb b 46 ≡ t → names_text (names_of s) ≡ s → names_text (cond t ([] ∷ names_of s) (onto b (names_of s))) ≡ b ∷ s
joined_by b s true e h = pointed_again (names_of s) (names_some s) ∙ (λ i. sym (eqb-true b 46 e) i ∷ h i)
joined_by b s false e h = onto_text b (names_of s) (names_some s) ∙ ap (λ t. b ∷ t) h

names_joined : (s : List ℕ) → names_text (names_of s) ≡ s
names_joined [] = refl
names_joined (b ∷ s) = joined_by b s (eqb b 46) refl (names_joined s)

every_all : (ns : List (List ℕ)) → every_name ns ≡ true → AllByRecursion (λ n. proper_name n ≡ true) ns
every_all [] e = tt
every_all (n ∷ ns) e = let h = and_parts (proper_name n) (every_name ns) e in (h.0, every_all ns h.1)

path_sound : (w : List ℕ) (x : Term) → path_of w ≡ Some x → WrittenRead w x
path_sound w x e =
    let c = cond_none (every_name (names_of w)) (Some (path (names_of w))) x e in
    record { read = named (names_of w); proper = (names_some w, every_all (names_of w) c.0); text = names_joined w; means = some_same (path (names_of w)) x c.1 }

-- ---- operands

other_by : (w : List ℕ) (x : Term) (o : Option Term) → constant_of w ≡ o → or_else o (path_of w) ≡ Some x → WrittenRead w x
other_by w x None h e = path_sound w x e
other_by w x (Some t) h e = constant_sound w x (h ∙ e)

word_by : (w : List ℕ) (x : Term) (t : Bool) → numeric w ≡ t → operand_of w ≡ Some x → WrittenRead w x
word_by w x true h e =
    let m = mapped_some int (number_of w) x (sym (operand_number w h) ∙ e) in
    subst (WrittenRead w) m.2 (number_sound w m.0 m.1)
word_by w x false h e = other_by w x (constant_of w) refl (sym (operand_other w h) ∙ e)

pub word_sound : (w : List ℕ) (x : Term) → operand_of w ≡ Some x → WrittenRead w x
word_sound w x e = word_by w x (numeric w) refl e

record SpacedRead (s : List ℕ) (p : Term × List ℕ) : Type 0 where
  read : Spaced
  proper : ProperWritten read.operand
  text : s ≡ spaced_text read ++ p.1
  means : says read.operand ≡ p.0

operand_sound : (s : List ℕ) (p : Term × List ℕ) → leading_operand s ≡ Some p → SpacedRead s p
operand_sound s p e =
    let q = operand-parts s p e in
    let w = word_sound (leading_word (unspaced s)) p.0 q.0 in
    let a = unspaced_sound s in
    let b = unspaced_sound (behind_word (unspaced s)) in
    let r = written_text w.read in
    record {
      read = record { before = a.0; operand = w.read; behind = b.0 };
      proper = w.proper;
      text =
          a.1
          ∙ ap (λ t. spaces a.0 ++ t)
          (sym (take-append-drop (prefix_len word_byte (unspaced s)) (unspaced s))
          ∙ (λ i. sym w.text i ++ b.1 i)
          ∙ ap (λ t. r ++ (spaces b.0 ++ t)) q.1
          ∙ sym (append_assoc r (spaces b.0) p.1))
          ∙ sym (append_assoc (spaces a.0) (r ++ spaces b.0) p.1);
      means = w.means;
    }

-- ---- operators

begins-front : (p s : List ℕ) → begins p s ≡ true → s ≡ p ++ drop (length p) s
begins-front [] s e = refl
begins-front (x ∷ p) [] e = absurd (false≢true e)
begins-front (x ∷ p) (y ∷ s) e = let h = and_parts (eqb x y) (begins p s) e in λ i. sym (eqb-true x y h.0) i ∷ begins-front p s h.1 i

-- the table has each operator beside its text
abbrev Known : List (List ℕ × Operator) → Type 0
Known l = AllByRecursion (λ x. x.0 ≡ operator_text x.1) l

known : Known operators
known = (refl, (refl, (refl, (refl, (refl, (refl, tt))))))

operator_by : (l : List (List ℕ × Operator)) (s : List ℕ) (p : Operator × List ℕ) → Known l → operator_of l s ≡ Some p → s ≡ operator_text p.0 ++ p.1
operator_by [] s p k e = not_some p e
operator_by (x ∷ l) s p k e =
    cond_some (λ p. s ≡ operator_text p.0 ++ p.1) (begins x.0 s) (x.1, drop (length x.0) s) (operator_of l s) p e
    (λ h. begins-front x.0 s h ∙ ap (λ t. t ++ drop (length x.0) s) k.0) (operator_by l s p k.1)

operator_sound : (s : List ℕ) (p : Operator × List ℕ) → leading_operator s ≡ Some p → s ≡ operator_text p.0 ++ p.1
operator_sound s p e = operator_by operators s p known e

-- ---- comparisons and rules

record PhraseRead (s : List ℕ) (c : Compared × List ℕ) : Type 0 where
  read : Phrase
  proper : ProperPhrase read
  text : s ≡ phrase_text read ++ c.1
  means : phrase_says read ≡ c.0

sides_sound : (s : List ℕ) (c : Compared × List ℕ) (q : Sides s c) → PhraseRead s (record { left = q.left.0; operator = q.operator.0; right = q.right.0 }, q.right.1)
sides_sound s c q =
    let l = operand_sound s q.left q.left_read in
    let o = operator_sound q.left.1 q.operator q.operator_read in
    let r = operand_sound q.operator.1 q.right q.right_read in
    let lt = spaced_text l.read in
    let ot = operator_text q.operator.0 in
    let rt = spaced_text r.read in
    record {
      read = record { left = l.read; operator = q.operator.0; right = r.read };
      proper = (l.proper, r.proper);
      text = l.text ∙ ap (λ t. lt ++ t) (o ∙ ap (λ t. ot ++ t) r.text ∙ sym (append_assoc ot rt q.right.1)) ∙ sym (append_assoc lt (ot ++ rt) q.right.1);
      means = λ i. record { left = l.means i; operator = q.operator.0; right = r.means i };
    }

comparison_sound : (s : List ℕ) (c : Compared × List ℕ) → leading_comparison s ≡ Some c → PhraseRead s c
comparison_sound s c e = let q = comparison_parts s c e in subst (PhraseRead s) q.made (sides_sound s c q)

record RuleRead (done : List Compared) (s : List ℕ) (cs : List Compared) : Type 0 where
  first : Phrase
  more : List Phrase
  proper : AllByRecursion ProperPhrase (first ∷ more)
  text : s ≡ phrase_text first ++ more_text more
  means : cs ≡ done ++ map phrase_says (first ∷ more)

empty : (s : List ℕ) → length s ≡ 0 → s ≡ []
empty [] h = refl
empty (b ∷ s) h = absurd (omega arith)

last_read : (done : List Compared) (s : List ℕ) (c : Compared × List ℕ) → PhraseRead s c → eqb (length c.1) 0 ≡ true → RuleRead done s (done ++ c.0 ∷ [])
last_read done s c p z =
    record {
      first = p.read;
      more = [];
      proper = (p.proper, tt);
      text = p.text ∙ ap (λ t. phrase_text p.read ++ t) (empty c.1 (eqb-true (length c.1) 0 z));
      means = ap (λ x. done ++ x ∷ []) (sym p.means);
    }

next_read : (done : List Compared) (s : List ℕ) (c : Compared × List ℕ) (t : List ℕ) (cs : List Compared) → PhraseRead s c → behind_and c.1 ≡ Some t → RuleRead (done ++ c.0 ∷ []) t cs → RuleRead done s cs
next_read done s c t cs p a r =
    let h = and_parts_of c.1 t a in
    let u : c.1 ≡ codes "&&" ++ t = begins-front (codes "&&") c.1 h.0 ∙ ap (λ x. codes "&&" ++ x) h.1 in
    record {
      first = p.read;
      more = r.first ∷ r.more;
      proper = (p.proper, r.proper);
      text = p.text ∙ ap (λ x. phrase_text p.read ++ x) (u ∙ ap (λ x. codes "&&" ++ x) r.text);
      means = r.means ∙ append_assoc done (c.0 ∷ []) (map phrase_says (r.first ∷ r.more)) ∙ ap (λ x. done ++ x ∷ map phrase_says (r.first ∷ r.more)) (sym p.means);
    }

rule_sound : (k : ℕ) (done : List Compared) (s : List ℕ) (cs : List Compared) → rule_from k done s ≡ Some cs → RuleRead done s cs
rule_sound zero done s cs e = not_some cs (sym (rule_zero done s) ∙ e)
rule_sound (suc k) done s cs e =
    let c = then_some (leading_comparison s) (goes_on k done) cs (sym (rule_turn k done s) ∙ e) in
    let p = comparison_sound s c.0 c.1 in
    cond_some (RuleRead done s) (eqb (length c.0.1) 0) (done ++ c.0.0 ∷ []) (then (behind_and c.0.1) (λ t. rule_from k (done ++ c.0.0 ∷ []) t)) cs c.2
    (last_read done s c.0 p)
    (λ h. let t = then_some (behind_and c.0.1) (λ t. rule_from k (done ++ c.0.0 ∷ []) t) cs h in next_read done s c.0 t.0 cs p t.1 (rule_sound k (done ++ c.0.0 ∷ []) t.0 cs t.2))

pub parsed_sound : (s : List ℕ) (cs : List Compared) → parsed s ≡ Some cs → Spells s cs
unfolding parsed
parsed_sound s cs e =
    let r = rule_sound (length s + 1) [] s cs e in
    record { reading = record { first = r.first; more = r.more }; proper = r.proper; text = sym r.text; means = sym r.means }
