-- A text is read in one way.
use Rattle.std.proofs.Common.{◌≡◌, ℕ, ◌+◌, ◌<◌, true, false, cond, ◌&&◌, eqb, List, [], ◌∷◌, ◌++◌, length, drop, Some, None, Option, sym, refl, ap, ◌∙◌, append_assoc, arith}
use Rattle.std.proofs.lemmas.Bool.{ne_eqb, eqb-false}
use Rattle.std.proofs.lemmas.Bool.Decides.{nat_tests}
use Rattle.std.specs.Char.{is_ascii_digit}
use Rattle.std.specs.List.{AllByRecursion}
use Rattle.durations.specs.Duration.{begins}
use Rattle.durations.specs.DurationGrammar.{Suffix, hour, minute, second, millisecond, microsecond, micro_sign, greek_mu, nanosecond, suffix_text, Number, plain, pointed, digits, digits_text, number_text, Amount, amount_text, amounts_text, Body, nought, amounts, all_amounts, body_text, Mark, bare, plus, minus, mark_text, Reading, spell, ProperAmount, Proper}
use Rattle.durations.proofs.DurationOptions.{some_same}
use Rattle.durations.proofs.DurationTexts.{BehindDigits, BehindNumber, BehindUnit, Unsigned, all_front, all_back, behind_digits, suffix_behind, amounts_behind, body_unsigned, amounts_long}

first_same : (x y : ℕ) (s t : List ℕ) → x ∷ s ≡ y ∷ t → x ≡ y
first_same x y s t e = cc

rest_same : (x y : ℕ) (s t : List ℕ) → x ∷ s ≡ y ∷ t → s ≡ t
rest_same x y s t e = cc

-- a digit is no end of digits
digit_goes_on : {X : Type 0} (d : ℕ) (s t : List ℕ) → d < 10 → BehindDigits t → (48 + d) ∷ s ≡ t → X
digit_goes_on d s [] small behind e = absurd (omega (arith, ap length e))
digit_goes_on d s (b ∷ t) small behind e =
    let is : 48 + d ≡ b = first_same (48 + d) b s t e in
    let digit : is_ascii_digit b ≡ true = grind (arith, nat_tests) in
    let z : ◌≡◌ {A = ℕ} 0 1 = ap (λ c. cond c 1 0) (sym behind ∙ digit) in absurd (omega arith)

digits_same : (ds es s t : List ℕ) → AllByRecursion (λ d. d < 10) ds → AllByRecursion (λ d. d < 10) es → BehindDigits s → BehindDigits t → digits_text ds ++ s ≡ digits_text es ++ t → (ds ≡ es) × (s ≡ t)
digits_same [] [] s t p q bs bt e = (refl, e)
digits_same [] (d ∷ es) s t p q bs bt e = digit_goes_on d (digits_text es ++ t) s q.0 bs (sym e)
digits_same (d ∷ ds) [] s t p q bs bt e = digit_goes_on d (digits_text ds ++ s) t p.0 bt e
digits_same (c ∷ ds) (d ∷ es) s t p q bs bt e =
    let same : c ≡ d = omega (arith, first_same (48 + c) (48 + d) (digits_text ds ++ s) (digits_text es ++ t) e) in
    let r = digits_same ds es s t p.1 q.1 bs bt (rest_same (48 + c) (48 + d) (digits_text ds ++ s) (digits_text es ++ t) e) in
    ((λ i. same i ∷ r.0 i), r.1)

-- a byte that is not x is not x
other_byte : {X : Type 0} (b x : ℕ) (s t : List ℕ) → eqb b x ≡ false → b ∷ s ≡ x ∷ t → X
other_byte b x s t other e = absurd (eqb-false b x other (first_same b x s t e))

-- a point is no end of a number
point_goes_on : {X : Type 0} (s t : List ℕ) → BehindNumber s → s ≡ 46 ∷ t → X
point_goes_on [] t behind e = absurd (omega (arith, ap length e))
point_goes_on (b ∷ s) t behind e = other_byte b 46 s t behind.1 e

number_same : (n m : Number) (s t : List ℕ) → AllByRecursion (λ d. d < 10) (digits n) → AllByRecursion (λ d. d < 10) (digits m) → BehindNumber s → BehindNumber t → number_text n ++ s ≡ number_text m ++ t → (n ≡ m) × (s ≡ t)
number_same (plain ds) (plain es) s t p q bs bt e = let r = digits_same ds es s t p q (behind_digits s bs) (behind_digits t bt) e in (ap plain r.0, r.1)
number_same (plain ds) (pointed es fs) s t p q bs bt e =
    let r = digits_same ds es s (46 ∷ digits_text fs ++ t) p (all_front es fs q) (behind_digits s bs) refl (e ∙ append_assoc (digits_text es) (46 ∷ digits_text fs) t) in
    point_goes_on s (digits_text fs ++ t) bs r.1
number_same (pointed ds gs) (plain es) s t p q bs bt e =
    let r = digits_same es ds t (46 ∷ digits_text gs ++ s) q (all_front ds gs p) (behind_digits t bt) refl (sym e ∙ append_assoc (digits_text ds) (46 ∷ digits_text gs) s) in
    point_goes_on t (digits_text gs ++ s) bt r.1
number_same (pointed ds gs) (pointed es fs) s t p q bs bt e =
    let front = digits_same ds es (46 ∷ digits_text gs ++ s) (46 ∷ digits_text fs ++ t) (all_front ds gs p) (all_front es fs q) refl refl (sym (append_assoc (digits_text ds) (46 ∷ digits_text gs) s) ∙ e ∙ append_assoc (digits_text es) (46 ∷ digits_text fs) t) in
    let back = digits_same gs fs s t (all_back ds gs p) (all_back es fs q) (behind_digits s bs) (behind_digits t bt) (rest_same 46 46 (digits_text gs ++ s) (digits_text fs ++ t) front.1) in
    ((λ i. pointed (front.0 i) (back.0 i)), back.1)

-- the first of these suffixes that s begins with, and what follows it
abbrev suffix_of : List Suffix → List ℕ → Option (Suffix × List ℕ)
suffix_of [] s = None
suffix_of (u ∷ more) s = cond (begins (suffix_text u) s) (Some (u, drop (length (suffix_text u)) s)) (suffix_of more s)

-- `m` stands behind `ms`
abbrev suffixes : List Suffix
suffixes = millisecond ∷ microsecond ∷ micro_sign ∷ greek_mu ∷ nanosecond ∷ hour ∷ minute ∷ second ∷ []

minute_back : (s : List ℕ) → BehindUnit s → suffix_of suffixes (suffix_text minute ++ s) ≡ Some (minute, s)
minute_back [] behind = refl
minute_back (b ∷ s) behind =
    let other : eqb 115 b ≡ false = ne_eqb 115 b (λ e. eqb-false b 115 behind (sym e)) in
    ap (λ c. cond (c && true) (Some (millisecond, s)) (Some (minute, b ∷ s))) other

suffix_back : (u : Suffix) (s : List ℕ) → BehindUnit s → suffix_of suffixes (suffix_text u ++ s) ≡ Some (u, s)
suffix_back hour s behind = refl
suffix_back minute s behind = minute_back s behind
suffix_back second s behind = refl
suffix_back millisecond s behind = refl
suffix_back microsecond s behind = refl
suffix_back micro_sign s behind = refl
suffix_back greek_mu s behind = refl
suffix_back nanosecond s behind = refl

suffix_same : (u v : Suffix) (s t : List ℕ) → BehindUnit s → BehindUnit t → suffix_text u ++ s ≡ suffix_text v ++ t → (u ≡ v) × (s ≡ t)
suffix_same u v s t bs bt e =
    let p = some_same (u, s) (v, t) (sym (suffix_back u s bs) ∙ ap (suffix_of suffixes) e ∙ suffix_back v t bt) in
    (ap (λ x. x.0) p, ap (λ x. x.1) p)

amount_same : (a b : Amount) (s t : List ℕ) → ProperAmount a → ProperAmount b → BehindUnit s → BehindUnit t → amount_text a ++ s ≡ amount_text b ++ t → (a ≡ b) × (s ≡ t)
amount_same a b s t p q bs bt e =
    let n = number_same a.numeral b.numeral (suffix_text a.suffix ++ s) (suffix_text b.suffix ++ t) p.0 q.0 (suffix_behind a.suffix s) (suffix_behind b.suffix t)
    (sym (append_assoc (number_text a.numeral) (suffix_text a.suffix) s) ∙ e ∙ append_assoc (number_text b.numeral) (suffix_text b.suffix) t) in
    let u = suffix_same a.suffix b.suffix s t bs bt n.1 in
    ((λ i. record { numeral = n.0 i; suffix = u.0 i }), u.1)

amounts_same : (xs ys : List Amount) → AllByRecursion ProperAmount xs → AllByRecursion ProperAmount ys → amounts_text xs ≡ amounts_text ys → xs ≡ ys
amounts_same [] [] p q e = refl
amounts_same [] (b ∷ ys) p q e = absurd (omega (arith, ap length e, amounts_long (b ∷ ys) q))
amounts_same (a ∷ xs) [] p q e = absurd (omega (arith, ap length e, amounts_long (a ∷ xs) p))
amounts_same (a ∷ xs) (b ∷ ys) p q e =
    let r = amount_same a b (amounts_text xs) (amounts_text ys) p.0 q.0 (amounts_behind xs p.1) (amounts_behind ys q.1) e in
    let more = amounts_same xs ys p.1 q.1 r.1 in
    λ i. r.0 i ∷ more i

body_same : (x y : Body) → AllByRecursion ProperAmount (all_amounts x) → AllByRecursion ProperAmount (all_amounts y) → body_text x ≡ body_text y → x ≡ y
body_same nought nought p q e = refl
body_same nought (amounts b ys) p q e = absurd (omega (arith, ap length e, amounts_long (b ∷ ys) q))
body_same (amounts a xs) nought p q e = absurd (omega (arith, ap length e, amounts_long (a ∷ xs) p))
body_same (amounts a xs) (amounts b ys) p q e = let r = amounts_same (a ∷ xs) (b ∷ ys) p q e in cc

minus_first : {X : Type 0} (s t : List ℕ) → Unsigned s → s ≡ 45 ∷ t → X
minus_first [] t h e = absurd (omega (arith, ap length e))
minus_first (b ∷ s) t h e = other_byte b 45 s t h.0 e

plus_first : {X : Type 0} (s t : List ℕ) → Unsigned s → s ≡ 43 ∷ t → X
plus_first [] t h e = absurd (omega (arith, ap length e))
plus_first (b ∷ s) t h e = other_byte b 43 s t h.1 e

mark_same : (m k : Mark) (s t : List ℕ) → Unsigned s → Unsigned t → mark_text m ++ s ≡ mark_text k ++ t → (m ≡ k) × (s ≡ t)
mark_same bare bare s t p q e = (refl, e)
mark_same bare plus s t p q e = plus_first s t p e
mark_same bare minus s t p q e = minus_first s t p e
mark_same plus bare s t p q e = plus_first t s q (sym e)
mark_same plus plus s t p q e = (refl, rest_same 43 43 s t e)
mark_same plus minus s t p q e = absurd (omega (arith, first_same 43 45 s t e))
mark_same minus bare s t p q e = minus_first t s q (sym e)
mark_same minus plus s t p q e = absurd (omega (arith, first_same 45 43 s t e))
mark_same minus minus s t p q e = (refl, rest_same 45 45 s t e)

pub reading_same : (p q : Reading) → Proper p → Proper q → spell p ≡ spell q → p ≡ q
reading_same p q pp pq e =
    let m = mark_same p.mark q.mark (body_text p.body) (body_text q.body) (body_unsigned p.body pp) (body_unsigned q.body pq) e in
    let b = body_same p.body q.body pp pq m.1 in
    λ i. record { mark = m.0 i; body = b i }
