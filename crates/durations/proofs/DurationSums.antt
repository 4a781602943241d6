-- Sums of amounts, one amount at a time.
use Rattle.std.proofs.Common.{◌≡◌, ℕ, zero, suc, ◌+◌, ◌^◌, ◌<◌, ◌≤◌, Bool, true, false, cond, ◌&&◌, eqb, ltb, List, [], ◌∷◌, length, get_or, Some, None, Option, sym, refl, ap, ◌∙◌, arith}
use Rattle.std.proofs.lemmas.Bool.{lt-ltb, le-ltb, ltb-true, eqb-true}
use Rattle.std.specs.Option.{option_map}
use Rattle.durations.specs.declared.duration.Sign.{Sign}
use Rattle.durations.specs.Duration.{then, leading_amount, sum_from, magnitude, sign, signed, duration}
use Rattle.durations.proofs.DurationOptions.{not_some, some_same, then_some, cond_some, cond_none}
use Rattle.durations.proofs.DurationAmounts.{amount_shrinks}

-- what is done with an amount a behind the total t
abbrev pub added : ℕ → ℕ → ℕ × List ℕ → Option ℕ
added k t a = cond (ltb (t + a.0) (2 ^ 63)) (sum_from k (t + a.0) a.1) None

pub sum_end : (k t : ℕ) → 0 < k → sum_from k t [] ≡ Some t
unfolding sum_from
sum_end zero t h = absurd (omega arith)
sum_end (suc k) t h = refl

pub sum_turn : (k t : ℕ) (s : List ℕ) → 0 < length s → sum_from (suc k) t s ≡ then (leading_amount s) (added k t)
unfolding sum_from
sum_turn k t [] h = absurd (omega arith)
sum_turn k t (b ∷ s) h = refl

pub sum_zero : (t : ℕ) (s : List ℕ) → sum_from 0 t s ≡ None
unfolding sum_from
sum_zero t s = refl

pub sum_next : (k t : ℕ) (s : List ℕ) (a : ℕ × List ℕ) → 0 < length s → leading_amount s ≡ Some a → t + a.0 < 2 ^ 63 → sum_from (suc k) t s ≡ sum_from k (t + a.0) a.1
sum_next k t s a h e small = sum_turn k t s h ∙ ap (λ o. then o (added k t)) e ∙ ap (λ c. cond c (sum_from k (t + a.0) a.1) None) (lt-ltb (t + a.0) (2 ^ 63) small)

pub sum_over : (k t : ℕ) (s : List ℕ) (a : ℕ × List ℕ) → 0 < length s → leading_amount s ≡ Some a → 2 ^ 63 ≤ t + a.0 → sum_from k t s ≡ None
sum_over zero t s a h e big = sum_zero t s
sum_over (suc k) t s a h e big = sum_turn k t s h ∙ ap (λ o. then o (added k t)) e ∙ ap (λ c. cond c (sum_from k (t + a.0) a.1) None) (le-ltb (t + a.0) (2 ^ 63) big)

pub sum_stuck : (k t : ℕ) (s : List ℕ) → 0 < length s → leading_amount s ≡ None → sum_from k t s ≡ None
sum_stuck zero t s h e = sum_zero t s
sum_stuck (suc k) t s h e = sum_turn k t s h ∙ ap (λ o. then o (added k t)) e

-- o is what t and the amounts of s come to
abbrev pub Left : Option ℕ → ℕ → List ℕ → Type 0
Left o t s = (k : ℕ) × (length s < k) × (o ≡ sum_from k t s)

pub left_next : (o : Option ℕ) (t u : ℕ) (s : List ℕ) (a : ℕ × List ℕ) → Left o t s → 0 < length s → leading_amount s ≡ Some a → u ≡ t + a.0 → u < 2 ^ 63 → Left o u a.1
left_next o t u s a (zero, lt, e) h am sum small = absurd (omega arith)
left_next o t u s a (suc k, lt, e) h am sum small =
    (k, omega (arith, amount_shrinks s a am), e ∙ sum_next k t s a h am (omega arith) ∙ ap (λ n. sum_from k n a.1) (sym sum))

pub left_over : (o : Option ℕ) (t u : ℕ) (s : List ℕ) (a : ℕ × List ℕ) → Left o t s → 0 < length s → leading_amount s ≡ Some a → u ≡ t + a.0 → 2 ^ 63 ≤ u → None ≡ o
left_over o t u s a (k, lt, e) h am sum big = sym (e ∙ sum_over k t s a h am (omega arith))

pub left_stuck : (o : Option ℕ) (t : ℕ) (s : List ℕ) → Left o t s → 0 < length s → leading_amount s ≡ None → None ≡ o
left_stuck o t s (k, lt, e) h am = sym (e ∙ sum_stuck k t s h am)

pub left_end : (o : Option ℕ) (t : ℕ) (s : List ℕ) → Left o t s → length s ≡ 0 → Some t ≡ o
left_end o t [] (k, lt, e) h = sym (e ∙ sum_end k t (omega arith))
left_end o t (b ∷ s) (k, lt, e) h = absurd (omega arith)

pub sum_below : (k t : ℕ) (s : List ℕ) (n : ℕ) → t < 2 ^ 63 → sum_from k t s ≡ Some n → n < 2 ^ 63
sum_below zero t s n small e = not_some n (sym (sum_zero t s) ∙ e)
sum_below (suc k) t [] n small e = let z : t ≡ n = some_same t n (sym (sum_end (suc k) t (omega arith)) ∙ e) in omega arith
sum_below (suc k) t (b ∷ s) n small e =
    let a = then_some (leading_amount (b ∷ s)) (added k t) n (sym (sum_turn k t (b ∷ s) (omega arith)) ∙ e) in
    let c = cond_none (ltb (t + a.0.0) (2 ^ 63)) (sum_from k (t + a.0.0) a.0.1) n a.2 in
    sum_below k (t + a.0.0) a.0.1 n (ltb-true (t + a.0.0) (2 ^ 63) c.0) c.1

pub magnitude-below : (s : List ℕ) (n : ℕ) → magnitude s ≡ Some n → n < 2 ^ 63
magnitude-below [] n e = not_some n e
magnitude-below (b ∷ s) n e =
    cond_some (λ n. n < 2 ^ 63) (eqb b 48 && eqb (length s) 0) 0 (sum_from (length (b ∷ s) + 1) 0 (b ∷ s)) n e
    (λ _. omega arith) (sum_below (length (b ∷ s) + 1) 0 (b ∷ s) n (omega arith))

not-zero : (b : ℕ) (s : List ℕ) → (b ≡ 48 → length (b ∷ s) ≡ 1 → ⊥) → (t u : Bool) → eqb b 48 ≡ t → eqb (length s) 0 ≡ u → (t && u) ≡ false
not-zero b s no_zero true true p q = absurd (no_zero (eqb-true b 48 p) (omega (arith, eqb-true (length s) 0 q)))
not-zero b s no_zero true false p q = refl
not-zero b s no_zero false u p q = refl

pub magnitude_sum : (s : List ℕ) → 0 < length s → (get_or s 0 0 ≡ 48 → length s ≡ 1 → ⊥) → magnitude s ≡ sum_from (length s + 1) 0 s
magnitude_sum [] h no_zero = absurd (omega arith)
magnitude_sum (b ∷ s) h no_zero =
    let k : (eqb b 48 && eqb (length s) 0) ≡ false = not-zero b s no_zero (eqb b 48) (eqb (length s) 0) refl refl in
    ap (λ c. cond c (Some 0) (sum_from (length (b ∷ s) + 1) 0 (b ∷ s))) k

pub duration_parts : (s : List ℕ) (g : Sign) (r : List ℕ) → sign s ≡ (g, r) → duration s ≡ option_map (signed g) (magnitude r)
unfolding duration
duration_parts s g r e = ap (λ p. option_map (signed p.0) (magnitude p.1)) e
