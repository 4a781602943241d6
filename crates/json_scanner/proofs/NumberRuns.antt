-- Runs over a number.
use Rattle.std.proofs.Common.{◌≡◌, ℕ, ◌+◌, ◌-◌, ◌*◌, ◌<◌, Bool, true, false, cond, eqb, leb, List, [], ◌∷◌, ◌++◌, Ok, Err, Result, sym, refl, ap, ◌∙◌, subst, append_assoc, arith}
use Rattle.std.proofs.lemmas.Bool.{cond_both, cond-true, cond-false}
use Rattle.std.proofs.lemmas.Bool.Decides.{nat_tests}
use Rattle.std.specs.Char.{is_ascii_digit}
use Rattle.json_scanner.specs.declared.modes.Figures.{Figures}
use Rattle.json_scanner.specs.declared.modes.Figures.TheVariants as figures
use Rattle.json_scanner.specs.declared.modes.NumberError.TheVariants as number_error
use Rattle.json_scanner.specs.declared.modes.Mode.TheVariants as mode
use Rattle.json_scanner.specs.declared.modes.Act.TheVariants as act
use Rattle.json_scanner.specs.declared.modes.Fault.{Fault}
use Rattle.json_scanner.specs.declared.modes.Fault.TheVariants as fault
use Rattle.json_scanner.specs.declared.modes.Ready.{Ready}
use Rattle.json_scanner.specs.Grammar.{Tree, power, sign, unfit, Numeral, Whole, Digits, Exponent, Real}
use Rattle.json_scanner.specs.Bytes.{goes, begun, judged, figured, figure, settled, still, then}
use Rattle.json_scanner.specs.Machine.{State, Frame, kinds, put, surroundings, carried, stepped, step, prepared, run}
use Rattle.json_scanner.proofs.Shape.{made_of}
use Rattle.json_scanner.proofs.Goes.{Goes, go, stop, Stops, unsettled, step-moved}

abbrev pub want : Frame → List Frame → ℕ → State
want f bs n = made_of mode.Want n [] f bs

abbrev pub after : Frame → List Frame → ℕ → State
after f bs n = made_of mode.After n [] f bs

abbrev pub numbering : Figures → ℕ → Frame → List Frame → ℕ → State
numbering g from f bs n = made_of (mode.Number g from) n [] f bs

digit_begun : (f : Frame) (bs : List Frame) (n i b : ℕ) → is_ascii_digit b ≡ true → begun mode.Want (surroundings i (kinds f bs) n) b ≡ goes (mode.Number (figures.Whole false (b - 48)) i) act.Stay
digit_begun f bs n i b e = grind (arith, nat_tests)

digit_want : (f : Frame) (bs : List Frame) (n i b : ℕ) → is_ascii_digit b ≡ true → step i (want f bs n) b ≡ Ok (numbering (figures.Whole false (b - 48)) i f bs n)
digit_want f bs n i b e = grind (arith, nat_tests)

-- a figure goes on with an integer
whole-step : (g : Bool) (k from : ℕ) (f : Frame) (bs : List Frame) (n i b : ℕ) → figure b ≡ true → step i (numbering (figures.Whole g k) from f bs n) b ≡ carried (judged (figured (figures.Whole g k) b) n from i) (numbering (figures.Whole g k) from f bs n)
whole-step g k from f bs n i b e = grind (arith, nat_tests)

digit_figured : (g : Bool) (k b : ℕ) → is_ascii_digit b ≡ true → 0 < k → figured (figures.Whole g k) b ≡ cond (unfit g (k * 10 + (b - 48))) (Err number_error.Unfit) (Ok (figures.Whole g (k * 10 + (b - 48))))
digit_figured g k b e pos = grind (arith, nat_tests)

digit_figure : (b : ℕ) → is_ascii_digit b ≡ true → figure b ≡ true
digit_figure b e = grind (arith, nat_tests)

power-figure : (b : ℕ) → power b ≡ true → figure b ≡ true
power-figure b e = grind (arith, nat_tests)

power-figured : (g : Bool) (k b : ℕ) → power b ≡ true → figured (figures.Whole g k) b ≡ Ok figures.Power
power-figured g k b e = grind (arith, nat_tests)

sign-figured : (b : ℕ) → sign b ≡ true → figured figures.Power b ≡ Ok figures.Sign
sign-figured b e = grind (arith, nat_tests)

unfit_more : (g : Bool) (k b : ℕ) → 0 < k → unfit g k ≡ true → unfit g (k * 10 + (b - 48)) ≡ true
unfit_more false k b pos h = grind (arith, nat_tests)
unfit_more true k b pos h = grind (arith, nat_tests)

digit_fits : (b : ℕ) → is_ascii_digit b ≡ true → unfit false (b - 48) ≡ false
digit_fits b e = grind (arith, nat_tests)

minus_fits : (b : ℕ) → is_ascii_digit b ≡ true → eqb b 48 ≡ false → unfit true (b - 48) ≡ false
minus_fits b e z = grind (arith, nat_tests)

minus_zero : (b : ℕ) → eqb b 48 ≡ true → unfit true (b - 48) ≡ true
minus_zero b z = grind (arith, nat_tests)

digits-first : {s : List ℕ} → Digits s → (b : ℕ) × (r : List ℕ) × (is_ascii_digit b ≡ true) × (s ≡ b ∷ r)
digits-first (Digits.one b e) = (b, [], e, refl)
digits-first (Digits.more b f e) = let h = digits-first f in (h.0, h.1 ++ b ∷ [], h.2, ap (λ l. l ++ b ∷ []) h.3)

module _ (N : ℕ) (P : Result Tree Fault → Type 0) (from : ℕ) (f : Frame) (bs : List Frame) (n : ℕ) where
  -- the number does not fit
  abbrev Bad : Bool → Type 0
  Bad c = c ≡ true → P (Err (fault.Number from))

  -- it goes on, where it fits
  abbrev On : Bool → ℕ → List ℕ → Type 0
  On g k rest = unfit g k ≡ false → (j : ℕ) → Goes N P (numbering (figures.Whole g k) from f bs n) j rest

  numeral_run : {k : ℕ} {s : List ℕ} (st : State) (g : Bool) (rest : List ℕ) (i : ℕ)
      → ((b : ℕ) (r : List ℕ) → is_ascii_digit b ≡ true → Bad (unfit g (b - 48)) → On g (b - 48) r → Goes N P st i (b ∷ r))
      → Numeral k s → Bad (unfit g k) → On g k rest → Goes N P st i (s ++ rest)
  numeral_run st g rest i first (Numeral.digit b e) bad k = first b rest e bad k
  numeral_run st g rest i first (Numeral.more {n = m} {s = s} b num pos e) bad k =
      subst (Goes N P st i) (sym (append_assoc s (b ∷ []) rest))
      (numeral_run st g (b ∷ rest) i first num (λ h. bad (unfit_more g m b pos h))
      (λ _ j eq.
      let at : State = numbering (figures.Whole g m) from f bs n in
      let moves : step j at b ≡ carried (judged (cond (unfit g (m * 10 + (b - 48))) (Err number_error.Unfit) (Ok (figures.Whole g (m * 10 + (b - 48))))) n from j) at = whole-step g m from f bs n j b (digit_figure b e) ∙ ap (λ v. carried (judged v n from j) at) (digit_figured g m b e pos) in
      subst (λ r. P (then r (λ x. run x (j + 1) rest))) (sym moves)
      (cond_both (unfit g (m * 10 + (b - 48))) _ _ (λ v. P (then (carried (judged v n from j) at) (λ x. run x (j + 1) rest))) bad (λ fit. k fit (j + 1) (omega arith)))))

  minus_first : (b : ℕ) (r : List ℕ) → is_ascii_digit b ≡ true → Bad (unfit true (b - 48)) → On true (b - 48) r → (i : ℕ) → Goes N P (numbering figures.Minus from f bs n) i (b ∷ r)
  minus_first b r e bad k i eq = grind (arith, nat_tests)

  -- a digit behind a point or an exponent
  digit_stop : (g : Figures) (s rest : List ℕ) → ((b : ℕ) → is_ascii_digit b ≡ true → figured g b ≡ (Err number_error.Unfit)) → settled (mode.Number g from) n ≡ Ok (still (mode.Number g from) n) → Digits s → P (Err (fault.Number from)) → (i : ℕ) → Goes N P (numbering g from f bs n) i (s ++ rest)
  digit_stop g s rest stops st ds bad i =
      let h = digits-first ds in
      subst (λ l. Goes N P (numbering g from f bs n) i (l ++ rest)) (sym h.3)
      (stop N P (numbering g from f bs n) (fault.Number from) i h.0 (h.1 ++ rest) (step-moved i h.0 (mode.Number g from) n [] f bs (Err (fault.Number from)) st (ap (λ v. judged v n from i) (stops h.0 h.2))) bad)

  point_stop : (s rest : List ℕ) → Digits s → P (Err (fault.Number from)) → (i : ℕ) → Goes N P (numbering figures.Point from f bs n) i (s ++ rest)
  point_stop s rest ds bad = digit_stop figures.Point s rest (λ b e. cond-true (is_ascii_digit b) _ _ e) refl ds bad

  exponent_run : {x : List ℕ} (g : Bool) (k : ℕ) (rest : List ℕ) → Exponent x → P (Err (fault.Number from)) → (j : ℕ) → Goes N P (numbering (figures.Whole g k) from f bs n) j (x ++ rest)
  exponent_run g k rest (Exponent.bare {f = s} e he ds) bad j =
      go N P (numbering (figures.Whole g k) from f bs n) (numbering figures.Power from f bs n) j e (s ++ rest)
      (whole-step g k from f bs n j e (power-figure e he) ∙ ap (λ v. carried (judged v n from j) (numbering (figures.Whole g k) from f bs n)) (power-figured g k e he))
      (digit_stop figures.Power s rest (λ b d. cond-true (is_ascii_digit b) _ _ d) refl ds bad (j + 1))
  exponent_run g k rest (Exponent.signed {f = s} e h he hh ds) bad j =
      go N P (numbering (figures.Whole g k) from f bs n) (numbering figures.Power from f bs n) j e (h ∷ (s ++ rest))
      (whole-step g k from f bs n j e (power-figure e he) ∙ ap (λ v. carried (judged v n from j) (numbering (figures.Whole g k) from f bs n)) (power-figured g k e he))
      (go N P (numbering figures.Power from f bs n) (numbering figures.Sign from f bs n) (j + 1) h (s ++ rest)
      (step-moved (j + 1) h (mode.Number figures.Power from) n [] f bs _ refl (ap (λ v. judged v n from (j + 1)) (sign-figured h hh)))
      (digit_stop figures.Sign s rest (λ b d. cond-true (is_ascii_digit b) _ _ d) refl ds bad (j + 1 + 1)))

module _ (N : ℕ) (P : Result Tree Fault → Type 0) (f : Frame) (bs : List Frame) (n : ℕ) where
  pub whole_run : {g : Bool} {k : ℕ} {s : List ℕ} (rest : List ℕ) (i : ℕ) → Whole g k s → (unfit g k ≡ true → P (Err (fault.Number i)))
      → (unfit g k ≡ false → (j : ℕ) → Goes N P (numbering (figures.Whole g k) i f bs n) j rest) → Goes N P (want f bs n) i (s ++ rest)
  whole_run rest i (Whole.plus num) bad on =
      numeral_run N P i f bs n (want f bs n) false rest i (λ b r e _ o. go N P (want f bs n) (numbering (figures.Whole false (b - 48)) i f bs n) i b r (digit_want f bs n i b e) (o (digit_fits b e) (i + 1))) num bad on
  whole_run rest i (Whole.minus {s = s} num) bad on =
      go N P (want f bs n) (numbering figures.Minus i f bs n) i 45 (s ++ rest) refl
      (numeral_run N P i f bs n (numbering figures.Minus i f bs n) true rest (i + 1) (λ b r e h o. minus_first N P i f bs n b r e h o (i + 1)) num bad on)

  pub real_run : {s : List ℕ} (rest : List ℕ) (i : ℕ) → Real s → P (Err (fault.Number i)) → Goes N P (want f bs n) i (s ++ rest)
  real_run rest i (Real.point {g = g} {n = k} {s = s} {f = t} w ds) bad =
      subst (Goes N P (want f bs n) i) (sym (append_assoc s (46 ∷ t) rest))
      (whole_run (46 ∷ (t ++ rest)) i w (λ _. bad) (λ _ j. go N P (numbering (figures.Whole g k) i f bs n) (numbering figures.Point i f bs n) j 46 (t ++ rest) refl (point_stop N P i f bs n t rest ds bad (j + 1))))
  real_run rest i (Real.raised {g = g} {n = k} {s = s} {x = x} w ex) bad =
      subst (Goes N P (want f bs n) i) (sym (append_assoc s x rest)) (whole_run (x ++ rest) i w (λ _. bad) (λ _ j. exponent_run N P i f bs n g k rest ex bad j))
  real_run rest i (Real.both {g = g} {n = k} {s = s} {f = t} {x = x} w ds ex) bad =
      subst (Goes N P (want f bs n) i) (joins s (46 ∷ t) x rest)
      (whole_run (46 ∷ (t ++ (x ++ rest))) i w (λ _. bad) (λ _ j. go N P (numbering (figures.Whole g k) i f bs n) (numbering figures.Point i f bs n) j 46 (t ++ (x ++ rest)) refl (point_stop N P i f bs n t (x ++ rest) ds bad (j + 1))))
    where
      joins : (a b c d : List ℕ) → a ++ (b ++ (c ++ d)) ≡ ((a ++ b) ++ c) ++ d
      joins a b c d = simp append_assoc

  -- an integer ends
  pub number_stops : (g : Bool) (k from : ℕ) (rest : List ℕ) → Stops rest → (leb 4096 n ≡ true → P (Err (fault.Crowded from)))
      → (leb 4096 n ≡ false → (j : ℕ) → Goes N P (after (put f (Tree.number g k)) bs (n + 1)) j rest) → (j : ℕ) → Goes N P (numbering (figures.Whole g k) from f bs n) j rest
  number_stops g k from [] sp crowded ok j eq = grind (arith, nat_tests)
  number_stops g k from (b ∷ s) sp crowded ok j eq =
      let st : State = numbering (figures.Whole g k) from f bs n in
      let Q : Result Ready Fault → Type 0 = λ x. P (then (then x (λ q. stepped j (prepared q st) b)) (λ y. run y (j + 1) s)) in
      subst Q (sym (cond-false (figure b) (Ok (still (mode.Number (figures.Whole g k) from) n)) (settled (mode.Number (figures.Whole g k) from) n) sp))
      (cond_both (leb 4096 n) _ _ Q crowded
      (λ h. subst (λ x. P (then x (λ y. run y (j + 1) s))) (unsettled j b mode.After (n + 1) [] (put f (Tree.number g k)) bs refl) (ok h j eq)))
