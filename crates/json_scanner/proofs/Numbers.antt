-- A number that is being read, by the grammar, and how it can be completed.
use Rattle.std.proofs.Common.{◌≡◌, ℕ, ◌+◌, ◌-◌, ◌*◌, ◌<◌, Bool, true, false, ◌||◌, eqb, List, [], ◌∷◌, ◌++◌, Ok, Err, Result, sym, refl, ap, subst, inl, inr, append_assoc, append-nil, arith, eqb-true}
use Rattle.std.proofs.lemmas.Bool.{cond_both, or_left}
use Rattle.std.proofs.lemmas.Bool.Decides.{nat_tests}
use Rattle.std.specs.Char.{is_ascii_digit}
use Rattle.json_scanner.specs.declared.modes.Figures.{Figures}
use Rattle.json_scanner.specs.declared.modes.Figures.TheVariants as figures
use Rattle.json_scanner.specs.declared.modes.NumberError.{NumberError}
use Rattle.json_scanner.specs.declared.modes.NumberError.TheVariants as number_error
use Rattle.json_scanner.specs.Grammar.{Tree, power, sign, unfit, Numeral, Whole, Digits, Exponent, Real, Value}
use Rattle.json_scanner.specs.Bytes.{figured}
use Rattle.json_scanner.specs.Faults.{Unfit, starts}

pub data NumberPart : Figures → List ℕ → Type 0 where
  minus : NumberPart figures.Minus (45 ∷ [])
  whole : {g : Bool} {k : ℕ} {s : List ℕ} → Whole g k s → NumberPart (figures.Whole g k) s
  point : {g : Bool} {k : ℕ} {s : List ℕ} → Whole g k s → NumberPart figures.Point (s ++ 46 ∷ [])
  raised : {g : Bool} {k : ℕ} {s : List ℕ} (e : ℕ) → Whole g k s → power e ≡ true → NumberPart figures.Power (s ++ e ∷ [])
  signed : {g : Bool} {k : ℕ} {s : List ℕ} (e h : ℕ) → Whole g k s → power e ≡ true → sign h ≡ true → NumberPart figures.Sign (s ++ e ∷ h ∷ [])

-- what a byte makes of a number
abbrev pub Judged : List ℕ → ℕ → Result Figures NumberError → Type 0
Judged p b (Ok f) = NumberPart f (p ++ b ∷ [])
Judged p b (Err number_error.Unfit) = Unfit (p ++ b ∷ [])
Judged p b (Err number_error.Broken) = Unit {0}

whole_more : {g : Bool} {k : ℕ} {s : List ℕ} (b : ℕ) → Whole g k s → 0 < k → is_ascii_digit b ≡ true → Whole g (k * 10 + (b - 48)) (s ++ b ∷ [])
whole_more b (Whole.plus num) pos d = Whole.plus (Numeral.more b num pos d)
whole_more b (Whole.minus num) pos d = Whole.minus (Numeral.more b num pos d)

positive : (n : ℕ) → eqb n 0 ≡ false → 0 < n
positive n e = grind (arith, nat_tests)

pub number_grows : {f : Figures} {p : List ℕ} (b : ℕ) → NumberPart f p → Judged p b (figured f b)
number_grows b minus =
    let P : Result Figures NumberError → Type 0 = Judged (45 ∷ []) b in
    cond_both (eqb b 48) _ _ P (λ e. subst (λ x. Unfit (45 ∷ x ∷ [])) (sym (eqb-true b 48 e)) (inl (true, 0, Whole.minus (Numeral.digit 48 refl), refl)))
    (λ _. cond_both (is_ascii_digit b) _ _ P (λ d. whole (Whole.minus (Numeral.digit b d))) (λ _. tt))
number_grows b (whole {g} {k} {s} num) =
    let P : Result Figures NumberError → Type 0 = Judged s b in
    cond_both (eqb b 46) _ _ P (λ e. subst (λ x. NumberPart figures.Point (s ++ x ∷ [])) (sym (eqb-true b 46 e)) (point num))
    (λ _. cond_both (power b) _ _ P (λ e. raised b num e)
    (λ _. cond_both (is_ascii_digit b) _ _ P
    (λ d. cond_both (eqb k 0) _ _ P (λ _. tt)
    (λ nz. cond_both (unfit g (k * 10 + (b - 48))) _ _ P (λ u. inl (g, k * 10 + (b - 48), whole_more b num (positive k nz) d, u)) (λ _. whole (whole_more b num (positive k nz) d))))
    (λ _. tt)))
number_grows b (point {g} {k} {s} num) =
    cond_both (is_ascii_digit b) _ _ (Judged (s ++ 46 ∷ []) b) (λ d. inr (subst Real (sym (append_assoc s (46 ∷ []) (b ∷ []))) (Real.point num (Digits.one b d)))) (λ _. tt)
number_grows b (raised {g} {k} {s} e num he) =
    let P : Result Figures NumberError → Type 0 = Judged (s ++ e ∷ []) b in
    cond_both (is_ascii_digit b) _ _ P (λ d. inr (subst Real (sym (append_assoc s (e ∷ []) (b ∷ []))) (Real.raised num (Exponent.bare e he (Digits.one b d)))))
    (λ _. cond_both (sign b) _ _ P (λ h. subst (NumberPart figures.Sign) (sym (append_assoc s (e ∷ []) (b ∷ []))) (signed e b num he h)) (λ _. tt))
number_grows b (signed {g} {k} {s} e h num he hh) =
    cond_both (is_ascii_digit b) _ _ (Judged (s ++ e ∷ h ∷ []) b)
    (λ d. inr (subst Real (sym (append_assoc s (e ∷ h ∷ []) (b ∷ []))) (Real.raised num (Exponent.signed e h he hh (Digits.one b d))))) (λ _. tt)

pub number_completed : {f : Figures} {p : List ℕ} → NumberPart f p → (q : List ℕ) × (v : Tree) × Value v (p ++ q)
number_completed minus = (49 ∷ [], _, Value.whole (Whole.minus (Numeral.digit 49 refl)))
number_completed (whole num) = ([], _, subst (Value _) (sym (append-nil _)) (Value.whole num))
number_completed (point num) = (48 ∷ [], _, subst (Value _) (simp append_assoc) (Value.broken (Real.point num (Digits.one 48 refl))))
number_completed (raised e num he) = (48 ∷ [], _, subst (Value _) (simp append_assoc) (Value.broken (Real.raised num (Exponent.bare e he (Digits.one 48 refl)))))
number_completed (signed e h num he hh) = (48 ∷ [], _, subst (Value _) (simp append_assoc) (Value.broken (Real.raised num (Exponent.signed e h he hh (Digits.one 48 refl)))))

-- ---- the first byte

-- s begins with the first byte of a number
abbrev pub Opens : List ℕ → Type 0
Opens s = (b : ℕ) × (r : List ℕ) × ((is_ascii_digit b || eqb b 45) ≡ true) × (s ≡ b ∷ r)

opens_more : (s t : List ℕ) → Opens s → Opens (s ++ t)
opens_more s t h = (h.0, h.1 ++ t, h.2, ap (λ l. l ++ t) h.3)

numeral_opens : {n : ℕ} {s : List ℕ} → Numeral n s → (b : ℕ) × (r : List ℕ) × (is_ascii_digit b ≡ true) × (s ≡ b ∷ r)
numeral_opens (Numeral.digit b e) = (b, [], e, refl)
numeral_opens (Numeral.more b num pos e) = let f = numeral_opens num in (f.0, f.1 ++ b ∷ [], f.2, ap (λ l. l ++ b ∷ []) f.3)

pub whole-opens : {g : Bool} {n : ℕ} {s : List ℕ} → Whole g n s → Opens s
whole-opens (Whole.plus num) = let f = numeral_opens num in (f.0, f.1, or_left (is_ascii_digit f.0) (eqb f.0 45) f.2, f.3)
whole-opens (Whole.minus {s = s} num) = (45, s, refl, refl)

pub real_opens : {s : List ℕ} → Real s → Opens s
real_opens (Real.point {s = s} {f = f} w x) = opens_more s (46 ∷ f) (whole-opens w)
real_opens (Real.raised {s = s} {x = x} w e) = opens_more s x (whole-opens w)
real_opens (Real.both {s = s} {f = f} {x = x} w y e) = opens_more (s ++ 46 ∷ f) x (opens_more s (46 ∷ f) (whole-opens w))

pub part-opens : {f : Figures} {p : List ℕ} → NumberPart f p → Opens p
part-opens minus = (45, [], refl, refl)
part-opens (whole num) = whole-opens num
part-opens (point {s = s} num) = opens_more s (46 ∷ []) (whole-opens num)
part-opens (raised {s = s} e num he) = opens_more s (e ∷ []) (whole-opens num)
part-opens (signed {s = s} e h num he hh) = opens_more s (e ∷ h ∷ []) (whole-opens num)

pub opens-starts : (b : ℕ) → (is_ascii_digit b || eqb b 45) ≡ true → starts b ≡ true
opens-starts b e = grind (arith, nat_tests)
