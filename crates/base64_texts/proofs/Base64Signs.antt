-- The 64 signs: a sign's six bits, and the sign of six bits. The table is read by one test that antt computes, and a
-- lemma that turns the test into the rule at each place.

use Rattle.std.proofs.Common.{◌≡◌, ℕ, zero, suc, ◌+◌, ◌-◌, ◌<◌, Bool, true, cond, ◌&&◌, eqb, ltb, Some, sym, refl, ap, ◌∙◌, ⊎_elim, arith}
use Rattle.std.proofs.lemmas.Bool.{and_parts, cases_eq, eqb-true}
use Rattle.std.proofs.lemmas.Bool.Decides.{nat_tests}
use Rattle.base64_texts.specs.Base64.{alphabet, sign, pad, sextet}

-- the test passes at each number below n
abbrev upto : (ℕ → Bool) → ℕ → Bool
upto f zero = true
upto f (suc n) = f n && upto f n

at : (f : ℕ → Bool) (n : ℕ) → upto f n ≡ true → (k : ℕ) → k < n → f k ≡ true
at f zero t k h = absurd (omega arith)
at f (suc n) t k h =
    let parts = and_parts (f n) (upto f n) t in
    ⊎_elim (λ e. ap f e ∙ parts.0) (λ ne. at f n parts.1 k (omega arith)) (cases_eq k n)

-- the sign of six bits, by the ranges of the alphabet
abbrev ranged : ℕ → ℕ
ranged v = cond (ltb v 26) (v + 65) (cond (ltb v 52) (v + 71) (cond (ltb v 62) (v - 4) (cond (ltb v 63) 43 47)))

abbrev right : ℕ → Bool
right v = eqb (sign v) (ranged v)

all_right : upto right 64 ≡ true
unfolding sign alphabet
all_right = refl

sign_ranged : (v : ℕ) → v < 64 → sign v ≡ ranged v
sign_ranged v h = eqb-true (sign v) (ranged v) (at right 64 all_right v h)

ranged_sextet : (v : ℕ) → v < 64 → sextet (ranged v) ≡ Some v
ranged_sextet v h = grind (arith, nat_tests)

pub sextet-sign : (v : ℕ) → v < 64 → sextet (sign v) ≡ Some v
sextet-sign v h = ap sextet (sign_ranged v h) ∙ ranged_sextet v h

below : (s v : ℕ) → sextet s ≡ Some v → v < 64
below s v e = grind (arith, nat_tests)

sextet_ranged : (s v : ℕ) → sextet s ≡ Some v → ranged v ≡ s
sextet_ranged s v e = grind (arith, nat_tests)

pub sign-sextet : (s v : ℕ) → sextet s ≡ Some v → (sign v ≡ s) × (v < 64)
sign-sextet s v e = let h = below s v e in (sign_ranged v h ∙ sextet_ranged s v e, h)

-- no sign of the alphabet is the padding sign
pub sign_not_pad : (v : ℕ) → v < 64 → sign v ≡ pad → ⊥
sign_not_pad v h e =
    let some : Some v ≡ sextet pad = sym (sextet-sign v h) ∙ ap sextet e in
    cc
