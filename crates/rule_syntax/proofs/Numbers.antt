-- What the library parses as a number is what the digits of a word write.
use Rattle.std.proofs.Common.{◌≡◌, ℕ, ◌+◌, ◌-◌, ◌*◌, ◌^◌, ◌<◌, ◌≤◌, Bool, true, false, cond, eqb, leb, List, [], ◌∷◌, length, ℤ, pos, neg_ℤ, Some, None, Ok, Err, Option, Result, sym, refl, ap, ◌∙◌, arith, w64}
use Rattle.std.proofs.lemmas.Bool.{eqb-true, false≢true, leb-true, leb-false}
use Rattle.std.proofs.lemmas.Bool.Decides.{nat_tests}
use Rattle.std.proofs.lemmas.Str.{IsUtf8-from_ascii, IsUtf8-nil, digit_value_digit}
use Rattle.std.proofs.lemmas.Str.Ascii.{IsAscii-nil, IsAscii-cons}
use Rattle.std.proofs.lemmas.Str.Parse.{digit_from_value, numerals_by_value, parse_signed_minus, parse_signed_plain, tells_digits}
use Rattle.std.specs.Char.{digit_value, is_ascii_digit}
use Rattle.std.specs.Option.{SomeIff, option_map}
use Rattle.std.specs.Result.{OkIff, result_ok}
use Rattle.std.specs.Str.{IsAscii, IsUtf8}
use Rattle.std.specs.Str.Parse.{AllDigits, ParsesSigned, digits_value, digits_value_after}
use Rattle.rule_syntax.specs.Syntax.{magnitude, magnitude_from, number_of, numeric}
use Rattle.rule_syntax.proofs.Operands.{number_minus, number_plain}

-- ---- answers by cases

some_as : (o : Option ℕ) (P Q : Type 0) (v w : ℕ) → (P → Q) → (Q → P) → v ≡ w → SomeIff o P v → SomeIff o Q w
some_as None P Q v w f g e h = λ q. h (g q)
some_as (Some x) P Q v w f g e h = (f h.0, h.1 ∙ e)

no_some : (o : Option ℕ) (P : Type 0) (n : ℕ) → SomeIff o P n → ¬ P → o ≡ None
no_some None P n h bad = refl
no_some (Some x) P n h bad = absurd (bad h.0)

same_answer : {E : Type 0} (f : ℕ → ℤ) (r : Result ℤ E) (o : Option ℕ) (P Q : Type 0) (n : ℕ) → OkIff r P (f n) → SomeIff o Q n → (P → Q) → (Q → P) → result_ok r ≡ option_map f o
same_answer f (Ok x) (Some y) P Q n h k to from = ap Some (h.1 ∙ ap f (sym k.1))
same_answer f (Ok x) None P Q n h k to from = absurd (k (to h.0))
same_answer f (Err e) (Some y) P Q n h k to from = absurd (h (from k.0))
same_answer f (Err e) None P Q n h k to from = refl

-- ---- digits

value_grows : (v : ℕ) (s : List ℕ) → v ≤ digits_value_after 10 v s
value_grows v [] = omega arith
value_grows v (b ∷ s) = let e = value_grows (v * 10 + digit_value b) s in omega (arith, e)

-- the digits behind v keep the number at most m
abbrev Fits : ℕ → ℕ → List ℕ → Type 0
Fits m v s = AllDigits 10 s × (digits_value_after 10 v s ≤ m)

by_byte : (m v b : ℕ) (s : List ℕ) (c d : Bool) → is_ascii_digit b ≡ c → leb (v * 10 + (b - 48)) m ≡ d
    → (v * 10 + (b - 48) ≤ m → SomeIff (magnitude_from m (v * 10 + (b - 48)) s) (Fits m (v * 10 + (b - 48)) s) (digits_value_after 10 (v * 10 + (b - 48)) s))
    → SomeIff (cond c (cond d (magnitude_from m (v * 10 + (b - 48)) s) None) None) (Fits m v (b ∷ s)) (digits_value_after 10 v (b ∷ s))
by_byte m v b s false d e f rec = λ p. let r = digit_from_value b p.0.0 in false≢true (sym e ∙ grind (arith, nat_tests))
by_byte m v b s true false e f rec = λ p.
    let same = digit_value_digit b (digit_from_value b p.0.0) in
    omega (arith, same, value_grows (v * 10 + digit_value b) s, p.1, leb-false (v * 10 + (b - 48)) m f)
by_byte m v b s true true e f rec =
    let low : 48 ≤ b = grind (arith, nat_tests) in
    let high : b ≤ 57 = grind (arith, nat_tests) in
    let same : b - 48 ≡ digit_value b = omega (arith, digit_value_digit b (low, high)) in
    let small : digit_value b < 10 = omega arith in
    let value : digits_value_after 10 (v * 10 + (b - 48)) s ≡ digits_value_after 10 (v * 10 + digit_value b) s = ap (λ k. digits_value_after 10 (v * 10 + k) s) same in
    some_as _ _ _ _ _ (λ p. ((small, p.0), omega (arith, value, p.1))) (λ p. (p.0.1, omega (arith, value, p.1))) value (rec (leb-true (v * 10 + (b - 48)) m f))

magnitude_from-tells : (m v : ℕ) (s : List ℕ) → v ≤ m → SomeIff (magnitude_from m v s) (Fits m v s) (digits_value_after 10 v s)
magnitude_from-tells m v [] h = ((tt, h), refl)
magnitude_from-tells m v (b ∷ s) h = by_byte m v b s (is_ascii_digit b) (leb (v * 10 + (b - 48)) m) refl refl (λ k. magnitude_from-tells m (v * 10 + (b - 48)) s k)

-- s is digits, one at least, of a number that is at most m
abbrev Numeral : ℕ → List ℕ → Type 0
Numeral m s = (0 < length s) × AllDigits 10 s × (digits_value 10 s ≤ m)

magnitude_tells : (m : ℕ) (s : List ℕ) → SomeIff (magnitude m s) (Numeral m s) (digits_value 10 s)
magnitude_tells m [] = λ p. omega (arith, p.0)
magnitude_tells m (b ∷ s) = some_as _ _ _ _ _ (λ p. (omega arith, p.0, p.1)) (λ p. (p.1, p.2)) refl (magnitude_from-tells m 0 (b ∷ s) (omega arith))

-- ---- numbers

minus_parsed : {E : Type 0} (b : ℕ) (s : List ℕ) (r : Result ℤ E) → b ≡ 45 → ParsesSigned w64 10 (b ∷ s) r → result_ok r ≡ number_of (b ∷ s)
minus_parsed b s r e h =
    same_answer (λ n. neg_ℤ (pos n)) r (magnitude (2 ^ 63) s) _ (Numeral (2 ^ 63) s) (digits_value 10 s)
    (parse_signed_minus (numerals_by_value (AllDigits 10) tells_digits) w64 (b ∷ s) r h e)
    (magnitude_tells (2 ^ 63) s)
    (λ p. (p.1, p.0, p.2))
    (λ p. (p.1, p.0, p.2))
    ∙ sym (number_minus (b ∷ s) (omega arith) e)

plain_parsed : {E : Type 0} (b : ℕ) (s : List ℕ) (r : Result ℤ E) → (b ≡ 45 → ⊥) → numeric (b ∷ s) ≡ true → ParsesSigned w64 10 (b ∷ s) r → result_ok r ≡ number_of (b ∷ s)
plain_parsed b s r bad n h =
    let plus : b ≡ 43 → ⊥ = λ e. grind (arith, nat_tests) in
    same_answer pos r (magnitude (2 ^ 63 - 1) (b ∷ s)) _ (Numeral (2 ^ 63 - 1) (b ∷ s)) (digits_value 10 (b ∷ s))
    (parse_signed_plain (numerals_by_value (AllDigits 10) tells_digits) w64 (b ∷ s) r h plus bad)
    (magnitude_tells (2 ^ 63 - 1) (b ∷ s))
    (λ p. (p.1, p.0, omega (arith, p.2)))
    (λ p. (p.1, p.0, omega (arith, p.2)))
    ∙ sym (number_plain (b ∷ s) (λ l e. bad e))

by_sign : {E : Type 0} (b : ℕ) (s : List ℕ) (r : Result ℤ E) (c : Bool) → eqb b 45 ≡ c → numeric (b ∷ s) ≡ true → ParsesSigned w64 10 (b ∷ s) r → result_ok r ≡ number_of (b ∷ s)
by_sign b s r true e n h = minus_parsed b s r (eqb-true b 45 e) h
by_sign b s r false e n h = plain_parsed b s r (λ k. grind (arith, nat_tests)) n h

pub number_parsed : {E : Type 0} (w : List ℕ) (r : Result ℤ E) → numeric w ≡ true → ParsesSigned w64 10 w r → result_ok r ≡ number_of w
number_parsed [] r n h = absurd (false≢true n)
number_parsed (b ∷ s) r n h = by_sign b s r (eqb b 45) refl n h

-- ---- what is no text is no number

ascii_digits : (s : List ℕ) → AllDigits 10 s → IsAscii s
ascii_digits [] d = IsAscii-nil
ascii_digits (b ∷ s) d = let r = digit_from_value b d.0 in IsAscii-cons b s (omega (arith, r.1)) (ascii_digits s d.1)

magnitude_none : (m : ℕ) (s : List ℕ) → ¬ IsAscii s → magnitude m s ≡ None
magnitude_none m s bad = no_some _ _ _ (magnitude_tells m s) (λ p. bad (ascii_digits s p.1))

no_text_by : (b : ℕ) (s : List ℕ) (c : Bool) → eqb b 45 ≡ c → ¬ IsAscii (b ∷ s) → number_of (b ∷ s) ≡ None
no_text_by b s true e bad =
    let minus = eqb-true b 45 e in
    number_minus (b ∷ s) (omega arith) minus ∙ ap (option_map (λ n. neg_ℤ (pos n))) (magnitude_none (2 ^ 63) s (λ a. bad (IsAscii-cons b s (omega arith) a)))
no_text_by b s false e bad = number_plain (b ∷ s) (λ l k. grind (arith, nat_tests)) ∙ ap (option_map pos) (magnitude_none (2 ^ 63 - 1) (b ∷ s) bad)

pub no_number : (w : List ℕ) → ¬ IsUtf8 w → number_of w ≡ None
no_number [] bad = absurd (bad IsUtf8-nil)
no_number (b ∷ s) bad = no_text_by b s (eqb b 45) refl (λ a. bad (IsUtf8-from_ascii (b ∷ s) a))
