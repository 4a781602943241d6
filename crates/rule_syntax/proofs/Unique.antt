-- A text is read in one way.
use Rattle.std.proofs.Common.{◌≡◌, ℕ, ◌+◌, ◌<◌, eqb, List, [], ◌∷◌, ◌++◌, length, sym, refl, ap, ◌∙◌, append_assoc, arith}
use Rattle.std.proofs.lemmas.List.{length-replicate}
use Rattle.std.specs.List.{prefix_len, AllByRecursion}
use Rattle.rule_syntax.specs.declared.rule.Operator.{Operator}
use Rattle.rule_syntax.specs.Syntax.{word_byte, unspaced, leading_word, behind_word, operand_of, leading_operator}
use Rattle.rule_syntax.specs.Grammar.{Written, plain, minus, truth, falsehood, nothing, named, digits_text, written_text, says, ProperWritten, Spaced, spaces, spaced_text, operator_text, Phrase, phrase_text, ProperPhrase, more_text, Reading, spell, Proper}
use Rattle.rule_syntax.proofs.Options.{some_same}
use Rattle.rule_syntax.proofs.Texts.{Stops, Each, Ends, space, leading_at, each_space, unspaced_at, word_at, behind_at, operator_ends, more_ends, spaces_ends, written_word, operand-begins, spaced_no_equals}
use Rattle.rule_syntax.proofs.Complete.{written_read, operator_at}

first_same : (x y : ℕ) (s t : List ℕ) → x ∷ s ≡ y ∷ t → x ≡ y
first_same x y s t e = cc

rest_same : (x y : ℕ) (s t : List ℕ) → x ∷ s ≡ y ∷ t → s ≡ t
rest_same x y s t e = cc

spaces_count : (n : ℕ) (s : List ℕ) → Stops space s → prefix_len space (spaces n ++ s) ≡ n
spaces_count n s stops = leading_at space (spaces n) s (each_space n) stops ∙ length-replicate n 32

spaces_same : (m n : ℕ) (s t : List ℕ) → Stops space s → Stops space t → spaces m ++ s ≡ spaces n ++ t → (m ≡ n) × (s ≡ t)
spaces_same m n s t bs bt e =
    (sym (spaces_count m s bs) ∙ ap (prefix_len space) e ∙ spaces_count n t bt, sym (unspaced_at m s bs) ∙ ap unspaced e ∙ unspaced_at n t bt)

word_same : (v w s t : List ℕ) → Each word_byte v → Each word_byte w → Stops word_byte s → Stops word_byte t → v ++ s ≡ w ++ t → (v ≡ w) × (s ≡ t)
word_same v w s t p q bs bt e =
    (sym (word_at v s p bs) ∙ ap leading_word e ∙ word_at w t q bt, sym (behind_at v s p bs) ∙ ap behind_word e ∙ behind_at w t q bt)

-- ---- operands

digits_same : (ds es : List ℕ) → digits_text ds ≡ digits_text es → ds ≡ es
digits_same [] [] e = refl
digits_same [] (x ∷ es) e = absurd (omega (arith, ap length e))
digits_same (d ∷ ds) [] e = absurd (omega (arith, ap length e))
digits_same (d ∷ ds) (x ∷ es) e =
    let same : d ≡ x = omega (arith, first_same (48 + d) (48 + x) (digits_text ds) (digits_text es) e) in
    let more = digits_same ds es (rest_same (48 + d) (48 + x) (digits_text ds) (digits_text es) e) in
    λ i. same i ∷ more i

digits_no_minus : {X : Type 0} (ds s : List ℕ) → AllByRecursion (λ d. d < 10) ds → digits_text ds ≡ 45 ∷ s → X
digits_no_minus [] s all e = absurd (omega (arith, ap length e))
digits_no_minus (d ∷ ds) s all e = absurd (omega (arith, first_same (48 + d) 45 (digits_text ds) s e))

written_by : (v w : Written) → ProperWritten v → ProperWritten w → written_text v ≡ written_text w → says v ≡ says w → v ≡ w
written_by (plain ds) (plain es) p q e h = ap plain (digits_same ds es e)
written_by (plain ds) (minus es) p q e h = digits_no_minus ds (digits_text es) p.0 e
written_by (plain ds) truth p q e h = let z : ◌≡◌ {A = ℕ} 0 1 = cc in absurd (omega arith)
written_by (plain ds) falsehood p q e h = let z : ◌≡◌ {A = ℕ} 0 1 = cc in absurd (omega arith)
written_by (plain ds) nothing p q e h = let z : ◌≡◌ {A = ℕ} 0 1 = cc in absurd (omega arith)
written_by (plain ds) (named ms) p q e h = let z : ◌≡◌ {A = ℕ} 0 1 = cc in absurd (omega arith)
written_by (minus ds) (plain es) p q e h = digits_no_minus es (digits_text ds) q.0 (sym e)
written_by (minus ds) (minus es) p q e h = ap minus (digits_same ds es (rest_same 45 45 (digits_text ds) (digits_text es) e))
written_by (minus ds) truth p q e h = let z : ◌≡◌ {A = ℕ} 0 1 = cc in absurd (omega arith)
written_by (minus ds) falsehood p q e h = let z : ◌≡◌ {A = ℕ} 0 1 = cc in absurd (omega arith)
written_by (minus ds) nothing p q e h = let z : ◌≡◌ {A = ℕ} 0 1 = cc in absurd (omega arith)
written_by (minus ds) (named ms) p q e h = let z : ◌≡◌ {A = ℕ} 0 1 = cc in absurd (omega arith)
written_by truth (plain es) p q e h = let z : ◌≡◌ {A = ℕ} 0 1 = cc in absurd (omega arith)
written_by truth (minus es) p q e h = let z : ◌≡◌ {A = ℕ} 0 1 = cc in absurd (omega arith)
written_by truth truth p q e h = refl
written_by truth falsehood p q e h = let z : ◌≡◌ {A = ℕ} 0 1 = cc in absurd (omega arith)
written_by truth nothing p q e h = let z : ◌≡◌ {A = ℕ} 0 1 = cc in absurd (omega arith)
written_by truth (named ms) p q e h = let z : ◌≡◌ {A = ℕ} 0 1 = cc in absurd (omega arith)
written_by falsehood (plain es) p q e h = let z : ◌≡◌ {A = ℕ} 0 1 = cc in absurd (omega arith)
written_by falsehood (minus es) p q e h = let z : ◌≡◌ {A = ℕ} 0 1 = cc in absurd (omega arith)
written_by falsehood truth p q e h = let z : ◌≡◌ {A = ℕ} 0 1 = cc in absurd (omega arith)
written_by falsehood falsehood p q e h = refl
written_by falsehood nothing p q e h = let z : ◌≡◌ {A = ℕ} 0 1 = cc in absurd (omega arith)
written_by falsehood (named ms) p q e h = let z : ◌≡◌ {A = ℕ} 0 1 = cc in absurd (omega arith)
written_by nothing (plain es) p q e h = let z : ◌≡◌ {A = ℕ} 0 1 = cc in absurd (omega arith)
written_by nothing (minus es) p q e h = let z : ◌≡◌ {A = ℕ} 0 1 = cc in absurd (omega arith)
written_by nothing truth p q e h = let z : ◌≡◌ {A = ℕ} 0 1 = cc in absurd (omega arith)
written_by nothing falsehood p q e h = let z : ◌≡◌ {A = ℕ} 0 1 = cc in absurd (omega arith)
written_by nothing nothing p q e h = refl
written_by nothing (named ms) p q e h = let z : ◌≡◌ {A = ℕ} 0 1 = cc in absurd (omega arith)
written_by (named ns) (plain es) p q e h = let z : ◌≡◌ {A = ℕ} 0 1 = cc in absurd (omega arith)
written_by (named ns) (minus es) p q e h = let z : ◌≡◌ {A = ℕ} 0 1 = cc in absurd (omega arith)
written_by (named ns) truth p q e h = let z : ◌≡◌ {A = ℕ} 0 1 = cc in absurd (omega arith)
written_by (named ns) falsehood p q e h = let z : ◌≡◌ {A = ℕ} 0 1 = cc in absurd (omega arith)
written_by (named ns) nothing p q e h = let z : ◌≡◌ {A = ℕ} 0 1 = cc in absurd (omega arith)
written_by (named ns) (named ms) p q e h = let z : ns ≡ ms = cc in ap named z

written_same : (v w : Written) → ProperWritten v → ProperWritten w → written_text v ≡ written_text w → v ≡ w
written_same v w p q e = written_by v w p q e (some_same (says v) (says w) (sym (written_read v p) ∙ ap operand_of e ∙ written_read w q))

unfolded : (x : Spaced) (s : List ℕ) → spaced_text x ++ s ≡ spaces x.before ++ (written_text x.operand ++ (spaces x.behind ++ s))
unfolded x s =
    append_assoc (spaces x.before) (written_text x.operand ++ spaces x.behind) s ∙ ap (λ y. spaces x.before ++ y) (append_assoc (written_text x.operand) (spaces x.behind) s)

spaced_same : (x y : Spaced) (s t : List ℕ) → ProperWritten x.operand → ProperWritten y.operand → Ends s → Ends t → spaced_text x ++ s ≡ spaced_text y ++ t → (x ≡ y) × (s ≡ t)
spaced_same x y s t p q bs bt e =
    let a =
    spaces_same x.before y.before (written_text x.operand ++ (spaces x.behind ++ s)) (written_text y.operand ++ (spaces y.behind ++ t))
    (operand-begins x.operand (spaces x.behind ++ s) p) (operand-begins y.operand (spaces y.behind ++ t) q) (sym (unfolded x s) ∙ e ∙ unfolded y t) in
    let w =
    word_same (written_text x.operand) (written_text y.operand) (spaces x.behind ++ s) (spaces y.behind ++ t)
    (written_word x.operand p) (written_word y.operand q) (spaces_ends x.behind s bs) (spaces_ends y.behind t bt) a.1 in
    let o = written_same x.operand y.operand p q w.0 in
    let b = spaces_same x.behind y.behind s t bs.space_ends bt.space_ends w.1 in
    ((λ i. record { before = a.0 i; operand = o i; behind = b.0 i }), b.1)

-- ---- comparisons and rules

operator_same : (o u : Operator) (s t : List ℕ) → Stops (λ b. eqb 61 b) s → Stops (λ b. eqb 61 b) t → operator_text o ++ s ≡ operator_text u ++ t → (o ≡ u) × (s ≡ t)
operator_same o u s t bs bt e =
    let p = some_same (o, s) (u, t) (sym (operator_at o s bs) ∙ ap leading_operator e ∙ operator_at u t bt) in
    (ap (λ x. x.0) p, ap (λ x. x.1) p)

opened : (p : Phrase) (s : List ℕ) → phrase_text p ++ s ≡ spaced_text p.left ++ (operator_text p.operator ++ (spaced_text p.right ++ s))
opened p s =
    append_assoc (spaced_text p.left) (operator_text p.operator ++ spaced_text p.right) s ∙ ap (λ y. spaced_text p.left ++ y) (append_assoc (operator_text p.operator) (spaced_text p.right) s)

phrase_same : (x y : Phrase) (s t : List ℕ) → ProperPhrase x → ProperPhrase y → Ends s → Ends t → phrase_text x ++ s ≡ phrase_text y ++ t → (x ≡ y) × (s ≡ t)
phrase_same x y s t p q bs bt e =
    let l =
    spaced_same x.left y.left (operator_text x.operator ++ (spaced_text x.right ++ s)) (operator_text y.operator ++ (spaced_text y.right ++ t)) p.0 q.0
    (operator_ends x.operator (spaced_text x.right ++ s)) (operator_ends y.operator (spaced_text y.right ++ t)) (sym (opened x s) ∙ e ∙ opened y t) in
    let o =
    operator_same x.operator y.operator (spaced_text x.right ++ s) (spaced_text y.right ++ t)
    (spaced_no_equals x.right s p.1) (spaced_no_equals y.right t q.1) l.1 in
    let r = spaced_same x.right y.right s t p.1 q.1 bs bt o.1 in
    ((λ i. record { left = l.0 i; operator = o.0 i; right = r.0 i }), r.1)

more_same : (xs ys : List Phrase) → AllByRecursion ProperPhrase xs → AllByRecursion ProperPhrase ys → more_text xs ≡ more_text ys → xs ≡ ys
more_same [] [] p q e = refl
more_same [] (y ∷ ys) p q e = absurd (omega (arith, ap length e))
more_same (x ∷ xs) [] p q e = absurd (omega (arith, ap length e))
more_same (x ∷ xs) (y ∷ ys) p q e =
    let one = rest_same 38 38 (38 ∷ (phrase_text x ++ more_text xs)) (38 ∷ (phrase_text y ++ more_text ys)) e in
    let two = rest_same 38 38 (phrase_text x ++ more_text xs) (phrase_text y ++ more_text ys) one in
    let r = phrase_same x y (more_text xs) (more_text ys) p.0 q.0 (more_ends xs) (more_ends ys) two in
    let more = more_same xs ys p.1 q.1 r.1 in
    λ i. r.0 i ∷ more i

pub reading_same : (p q : Reading) → Proper p → Proper q → spell p ≡ spell q → p ≡ q
reading_same p q pp pq e =
    let r = phrase_same p.first q.first (more_text p.more) (more_text q.more) pp.0 pq.0 (more_ends p.more) (more_ends q.more) e in
    let m = more_same p.more q.more pp.1 pq.1 r.1 in
    λ i. record { first = r.0 i; more = m i }
