-- A name taken apart from the front, by what stands at its first two places.
use Rattle.std.proofs.Common.{◌≡◌, ℕ, zero, suc, ◌+◌, ◌-◌, ◌<◌, ◌≤◌, Bool, true, false, cond, ◌&&◌, eqb, List, [], ◌∷◌, ◌++◌, length, get_or, take, drop, codes, sym, refl, ap, ◌∙◌, append-nil, arith, eq-eqb, ne_eqb, eqb-true}
use Rattle.std.proofs.lemmas.List.{take_rest}
use Rattle.std.specs.List.{All, concat}
use Rattle.escaping.specs.Escape.{replaced, sign, signs}

pair-drop : (s : List ℕ) → 2 ≤ length s → get_or s 0 0 ≡ 95 → get_or s 1 0 ≡ 95 → signs s ≡ codes "__underscores__" ∷ signs (drop 2 s)
unfolding signs
pair-drop [] h e f = absurd (omega arith)
pair-drop (a ∷ []) h e f = absurd (omega arith)
pair-drop (a ∷ (b ∷ s)) h e f = rw (eq-eqb a 95 e, eq-eqb b 95 f)

-- two underscores at the front
pub pair_first : (s : List ℕ) → 2 ≤ length s → get_or s 0 0 ≡ 95 → get_or s 1 0 ≡ 95 → signs s ≡ codes "__underscores__" ∷ signs (take (length s - 2) (drop 2 s))
pair_first s h e f = pair-drop s h e f ∙ ap (λ t. codes "__underscores__" ∷ signs t) (sym (take_rest s 2))

by_both : {X : Type 0} (a b : ℕ) (p q : Bool) (x y : X) → (p ≡ true → q ≡ true → ⊥) → cond (p && q) x y ≡ y
by_both a b true true x y n = absurd (n refl refl)
by_both a b true false x y n = refl
by_both a b false q x y n = refl

sign-drop : (s : List ℕ) (a : ℕ) → 1 ≤ length s → get_or s 0 0 ≡ a → (2 ≤ length s → get_or s 0 0 ≡ 95 → get_or s 1 0 ≡ 95 → ⊥) → signs s ≡ sign a ∷ signs (drop 1 s)
unfolding signs
sign-drop [] a h e n = absurd (omega arith)
sign-drop (x ∷ []) a h e n = ap (λ z. sign z ∷ []) e
sign-drop (x ∷ (y ∷ s)) a h e n =
    by_both x y (eqb x 95) (eqb y 95) (codes "__underscores__" ∷ signs s) (sign x ∷ signs (y ∷ s)) (λ p q. n (omega arith) (eqb-true x 95 p) (eqb-true y 95 q)) ∙ ap (λ z. sign z ∷ signs (y ∷ s)) e

-- one sign at the front that is not the first of two underscores
pub sign_first : (s : List ℕ) (a : ℕ) → 1 ≤ length s → get_or s 0 0 ≡ a → (2 ≤ length s → get_or s 0 0 ≡ 95 → get_or s 1 0 ≡ 95 → ⊥) → signs s ≡ sign a ∷ signs (take (length s - 1) (drop 1 s))
sign_first s a h e n = sign-drop s a h e n ∙ ap (λ t. sign a ∷ signs t) (sym (take_rest s 1))

sign-plain : (a : ℕ) → (a ≡ 46 → ⊥) → (a ≡ 45 → ⊥) → (a ≡ 47 → ⊥) → sign a ≡ a ∷ []
sign-plain a p q r = rw (ne_eqb a 46 p, ne_eqb a 45 q, ne_eqb a 47 r)

take-first : (s : List ℕ) → 1 ≤ length s → get_or s 0 0 ∷ [] ≡ take 1 s
take-first [] h = absurd (omega arith)
take-first (a ∷ s) h = refl

-- one that stays as it is
pub plain_first : (s : List ℕ) → 1 ≤ length s → (get_or s 0 0 ≡ 46 → ⊥) → (get_or s 0 0 ≡ 45 → ⊥) → (get_or s 0 0 ≡ 47 → ⊥) → (2 ≤ length s → get_or s 0 0 ≡ 95 → get_or s 1 0 ≡ 95 → ⊥) → signs s ≡ take 1 s ∷ signs (take (length s - 1) (drop 1 s))
plain_first s h p q r n =
    sign_first s (get_or s 0 0) h refl n ∙ ap (λ t. t ∷ signs (take (length s - 1) (drop 1 s))) (sign-plain (get_or s 0 0) p q r ∙ take-first s h)

by_joined : (a b : ℕ) (s : List ℕ) (p : Bool) → concat (signs s) ≡ replaced s → concat (signs (b ∷ s)) ≡ replaced (b ∷ s) → concat (cond p (codes "__underscores__" ∷ signs s) (sign a ∷ signs (b ∷ s))) ≡ cond p (codes "__underscores__" ++ replaced s) (sign a ++ replaced (b ∷ s))
by_joined a b s true e f = ap (λ t. codes "__underscores__" ++ t) e
by_joined a b s false e f = ap (λ t. sign a ++ t) f

-- the texts of all signs, one behind another
pub signs_joined : (s : List ℕ) → concat (signs s) ≡ replaced s
unfolding signs replaced
signs_joined [] = refl
signs_joined (a ∷ []) = append-nil (sign a)
signs_joined (a ∷ (b ∷ s)) = by_joined a b s (eqb a 95 && eqb b 95) (signs_joined s) (signs_joined (b ∷ s))

-- ---- a sign has a text, and takes bytes of the name

by_sign : (P : List ℕ → Type 0) (a : ℕ) (p q r : Bool) → P (codes "__dot__") → P (codes "__dash__") → P (codes "__slash__") → P (a ∷ []) → P (cond p (codes "__dot__") (cond q (codes "__dash__") (cond r (codes "__slash__") (a ∷ []))))
by_sign P a true q r dot dash slash other = dot
by_sign P a false true r dot dash slash other = dash
by_sign P a false false true dot dash slash other = slash
by_sign P a false false false dot dash slash other = other

sign-long : (a : ℕ) → 0 < length (sign a)
sign-long a = by_sign (λ t. 0 < length t) a (eqb a 46) (eqb a 45) (eqb a 47) (omega arith) (omega arith) (omega arith) (omega arith)

by_long : (a b : ℕ) (s : List ℕ) (p : Bool) → All (λ t. 0 < length t) (signs s) → All (λ t. 0 < length t) (signs (b ∷ s)) → All (λ t. 0 < length t) (cond p (codes "__underscores__" ∷ signs s) (sign a ∷ signs (b ∷ s)))
by_long a b s true e f zero d h = omega arith
by_long a b s true e f (suc k) d h = e k d (omega arith)
by_long a b s false e f zero d h = sign-long a
by_long a b s false e f (suc k) d h = f k d (omega arith)

-- no text is empty
pub signs_long : (s : List ℕ) → All (λ t. 0 < length t) (signs s)
unfolding signs
signs_long [] k d h = absurd (omega arith)
signs_long (a ∷ []) zero d h = sign-long a
signs_long (a ∷ []) (suc k) d h = absurd (omega arith)
signs_long (a ∷ (b ∷ s)) k d h = by_long a b s (eqb a 95 && eqb b 95) (signs_long s) (signs_long (b ∷ s)) k d h

-- how many bytes of a name a text stands for: only `__underscores__` is so long
abbrev taken : List ℕ → ℕ
taken t = cond (eqb (length t) 15) 2 1

abbrev taken_by : List (List ℕ) → ℕ
taken_by [] = 0
taken_by (t ∷ ts) = taken t + taken_by ts

sign-taken : (a : ℕ) → taken (sign a) ≡ 1
sign-taken a = by_sign (λ t. taken t ≡ 1) a (eqb a 46) (eqb a 45) (eqb a 47) refl refl refl refl

by_taken : (a b : ℕ) (s : List ℕ) (p : Bool) → taken_by (signs s) ≡ length s → taken_by (signs (b ∷ s)) ≡ length (b ∷ s) → taken_by (cond p (codes "__underscores__" ∷ signs s) (sign a ∷ signs (b ∷ s))) ≡ length (a ∷ (b ∷ s))
by_taken a b s true e f = omega (arith, e)
by_taken a b s false e f = omega (arith, sign-taken a, f)

signs-taken : (s : List ℕ) → taken_by (signs s) ≡ length s
unfolding signs
signs-taken [] = refl
signs-taken (a ∷ []) = omega (arith, sign-taken a)
signs-taken (a ∷ (b ∷ s)) = by_taken a b s (eqb a 95 && eqb b 95) (signs-taken s) (signs-taken (b ∷ s))

by_some : (t : List ℕ) (p : Bool) → 0 < cond p 2 1
by_some t true = omega arith
by_some t false = omega arith

-- what stands behind the first sign is shorter than the name
pub signs_shorter : (s text rest : List ℕ) → signs s ≡ text ∷ signs rest → length rest < length s
signs_shorter s text rest e =
    let some : 0 < taken text = by_some text (eqb (length text) 15) in
    omega (arith, some, ap (taken_by) e, signs-taken s, signs-taken rest)
