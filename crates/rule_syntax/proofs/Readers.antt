-- What is read from the front of a text, and where.
use Rattle.std.proofs.Common.{◌≡◌, ℕ, ◌+◌, ◌-◌, ◌<◌, ◌≤◌, ◌⊎◌, inl, inr, List, [], ◌∷◌, length, take, drop, Some, Option, sym, refl, ap, ◌∙◌, subst, arith, length-drop}
use lib.Seq.{drop-drop}
use Rattle.std.proofs.lemmas.Bool.{cases_lt}
use Rattle.std.proofs.lemmas.List.{take-append-drop, take_at, drop_all}
use Rattle.std.specs.Option.{option_map}
use Rattle.std.specs.List.{prefix_len}
use Rattle.rule_syntax.specs.declared.rule.Operator.{Operator}
use Rattle.rule_syntax.specs.Syntax.{Term, Compared, Within, then, word_byte, unspaced, leading_word, behind_word, operand_of, leading_operand, begins, operators, operator_of, leading_operator, leading_comparison}
use Rattle.rule_syntax.proofs.Options.{not_some, then_some, mapped_some, cond_some}

-- ---- where a text ends another

pub within_length : (s t : List ℕ) → Within s t → length t ≤ length s
within_length s t e = omega (arith, ap length e, length-drop (length s - length t) s)

pub within_trans : (s t u : List ℕ) → Within s t → Within t u → Within s u
within_trans s t u e k =
    let n : length s - length u ≡ (length s - length t) + (length t - length u) = omega (arith, within_length s t e, within_length t u k) in
    ap (λ n. drop n s) n ∙ (sym (drop-drop (length t - length u) (length s - length t) s) ∙ (ap (drop (length t - length u)) e ∙ k))

within_drop_by : (n : ℕ) (s : List ℕ) → (length s < n) ⊎ (n ≤ length s) → Within s (drop n s)
within_drop_by n s (inl h) =
    let m : length s ≤ length s - length (drop n s) = omega (arith, length-drop n s) in
    drop_all (length s - length (drop n s)) s m ∙ sym (drop_all n s (omega arith))
within_drop_by n s (inr h) = let m : length s - length (drop n s) ≡ n = omega (arith, length-drop n s) in ap (λ k. drop k s) m

pub within_drop : (n : ℕ) (s : List ℕ) → Within s (drop n s)
within_drop n s = within_drop_by n s (cases_lt (length s) n)

-- what stands behind the first n bytes of a text that ends s
pub within_behind : (s t u : List ℕ) (n : ℕ) → Within s t → u ≡ drop n t → Within s u
within_behind s t u n h e = subst (Within s) (sym e) (within_trans s t (drop n t) h (within_drop n t))

pub within_unspaced : (s t : List ℕ) → Within s t → Within s (unspaced t)
within_unspaced s t h = within_trans s t (unspaced t) h (within_drop _ t)

-- the word at the front of t, which ends s
pub word_stands : (s t w : List ℕ) → Within s t → w ≡ leading_word t → take (length w) (drop (length s - length t) s) ≡ leading_word t
word_stands s t w h e =
    ap (λ x. take (length w) x) h
    ∙ ap (λ x. take (length x) t) e
    ∙ ap (λ x. take (length (leading_word t)) x) (sym (take-append-drop (prefix_len word_byte t) t))
    ∙ take_at (leading_word t) (behind_word t) (length (leading_word t)) refl

-- the same in a reader's words, where r is left of s
pub word_at_place : (s r t w : List ℕ) → Within s r → t ≡ unspaced r → w ≡ leading_word t → take (length w) (drop (length s - length t) s) ≡ leading_word (unspaced r)
word_at_place s r t w h e k = word_stands s t w (subst (Within s) (sym e) (within_unspaced s r h)) k ∙ ap leading_word e

-- ---- operands

pub operand_some : (t : List ℕ) (x : Term) → operand_of (leading_word (unspaced t)) ≡ Some x → leading_operand t ≡ Some (x, unspaced (behind_word (unspaced t)))
unfolding leading_operand
operand_some t x e = ap (option_map (λ y. (y, unspaced (behind_word (unspaced t))))) e

pub operand-parts : (t : List ℕ) (p : Term × List ℕ) → leading_operand t ≡ Some p → (operand_of (leading_word (unspaced t)) ≡ Some p.0) × (unspaced (behind_word (unspaced t)) ≡ p.1)
unfolding leading_operand
operand-parts t p e =
    let m = mapped_some (λ y. (y, unspaced (behind_word (unspaced t)))) (operand_of (leading_word (unspaced t))) p e in
    (m.1 ∙ ap (λ q. Some q.0) m.2, ap (λ q. q.1) m.2)

pub operand_within : (t : List ℕ) (p : Term × List ℕ) → leading_operand t ≡ Some p → Within t p.1
operand_within t p e =
    let u = unspaced t in
    let w = within_unspaced t (behind_word u) (within_trans t u (behind_word u) (within_drop _ t) (within_drop _ u)) in
    subst (Within t) (operand-parts t p e).1 w

-- ---- operators

operator_of_within : (l : List (List ℕ × Operator)) (t : List ℕ) (p : Operator × List ℕ) → operator_of l t ≡ Some p → Within t p.1
operator_of_within [] t p e = not_some p e
operator_of_within (x ∷ l) t p e =
    cond_some (λ p. Within t p.1) (begins x.0 t) (x.1, drop (length x.0) t) (operator_of l t) p e
    (λ _. within_drop (length x.0) t) (operator_of_within l t p)

pub operator_within : (t : List ℕ) (p : Operator × List ℕ) → leading_operator t ≡ Some p → Within t p.1
operator_within t p e = operator_of_within operators t p e

-- ---- comparisons

-- what is done behind the left operand, and behind the operator
abbrev behind_left : Term × List ℕ → Option (Compared × List ℕ)
behind_left l = then (leading_operator l.1) (λ o. option_map (λ r. (record { left = l.0; operator = o.0; right = r.0 }, r.1)) (leading_operand o.1))

abbrev behind_operator : Term × List ℕ → Operator × List ℕ → Option (Compared × List ℕ)
behind_operator l o = option_map (λ r. (record { left = l.0; operator = o.0; right = r.0 }, r.1)) (leading_operand o.1)

pub comparison_some : (t : List ℕ) (l : Term × List ℕ) (o : Operator × List ℕ) (r : Term × List ℕ) → leading_operand t ≡ Some l → leading_operator l.1 ≡ Some o → leading_operand o.1 ≡ Some r
    → leading_comparison t ≡ Some (record { left = l.0; operator = o.0; right = r.0 }, r.1)
unfolding leading_comparison
comparison_some t l o r e k h = ap (λ o. then o behind_left) e ∙ ap (λ o. then o (behind_operator l)) k ∙ ap (option_map (λ r. (record { left = l.0; operator = o.0; right = r.0 }, r.1))) h

-- a comparison in its parts
pub record Sides (t : List ℕ) (p : Compared × List ℕ) : Type 0 where
  pub left : Term × List ℕ
  pub operator : Operator × List ℕ
  pub right : Term × List ℕ
  pub left_read : leading_operand t ≡ Some left
  pub operator_read : leading_operator left.1 ≡ Some operator
  pub right_read : leading_operand operator.1 ≡ Some right
  pub made : ◌≡◌ {A = Compared × List ℕ} (record { left = left.0; operator = operator.0; right = right.0 }, right.1) p

pub comparison_parts : (t : List ℕ) (p : Compared × List ℕ) → leading_comparison t ≡ Some p → Sides t p
unfolding leading_comparison
comparison_parts t p e =
    let l = then_some (leading_operand t) behind_left p e in
    let o = then_some (leading_operator l.0.1) (behind_operator l.0) p l.2 in
    let r = mapped_some (λ r. (record { left = l.0.0; operator = o.0.0; right = r.0 }, r.1)) (leading_operand o.0.1) p o.2 in
    record { left = l.0; operator = o.0; right = r.0; left_read = l.1; operator_read = o.1; right_read = r.1; made = r.2 }

pub comparison_within : (t : List ℕ) (p : Compared × List ℕ) → leading_comparison t ≡ Some p → Within t p.1
comparison_within t p e =
    let q = comparison_parts t p e in
    let w = within_trans t q.left.1 q.right.1 (operand_within t q.left q.left_read)
    (within_trans q.left.1 q.operator.1 q.right.1 (operator_within q.left.1 q.operator q.operator_read) (operand_within q.operator.1 q.right q.right_read)) in
    subst (Within t) (ap (λ x. x.1) q.made) w
