-- Each fault of a text is counted, unless one before it is.
use Rattle.std.proofs.Common.{◌≡◌, ℕ, suc, ◌+◌, ◌-◌, ◌<◌, ◌≤◌, true, false, ◌||◌, eqb, leb, ◌⊎◌, List, [], ◌∷◌, ◌++◌, length, take, drop, Ok, Err, Result, sym, refl, ap, ◌∙◌, subst, inl, inr, append_assoc, arith, length-append, eqb-true}
use Rattle.std.proofs.lemmas.Bool.{cond_both, cond-true, or_from, or_cases, le-leb, cases_lt, false≢true}
use Rattle.std.proofs.lemmas.Bool.Decides.{nat_tests}
use Rattle.std.proofs.lemmas.List.{take-take, take-append-drop}
use Rattle.std.specs.Char.{is_ascii_digit}
use Rattle.json_scanner.specs.declared.modes.Figures.{Figures}
use Rattle.json_scanner.specs.declared.modes.Figures.TheVariants as figures
use Rattle.json_scanner.specs.declared.modes.NumberError.{NumberError}
use Rattle.json_scanner.specs.declared.modes.NumberError.TheVariants as number_error
use Rattle.json_scanner.specs.declared.modes.Mode.{Mode}
use Rattle.json_scanner.specs.declared.modes.Mode.TheVariants as mode
use Rattle.json_scanner.specs.declared.modes.Container.{Container}
use Rattle.json_scanner.specs.declared.modes.Container.TheVariants as container
use Rattle.json_scanner.specs.declared.modes.Fault.{Fault}
use Rattle.json_scanner.specs.declared.modes.Fault.TheVariants as fault
use Rattle.json_scanner.specs.declared.modes.Ready.{Ready}
use Rattle.json_scanner.specs.Grammar.{Tree, nil, none, white, Blank, Numeral, Whole, Chars, Value, Viable}
use Rattle.json_scanner.specs.Bytes.{Moved, opening, beginning, judged, broken_off, figured, figure, settled, readied, still, then}
use Rattle.json_scanner.specs.Machine.{State, Frame, bare, items, fields, field, kinds, surroundings, carried, stepped, step, prepared, run, start}
use Rattle.json_scanner.specs.Faults.{place_of, number_of, CountsFirst, Inner, Place, top, within, values_before, starts, Unfit, Breaks, Nests, Misfits, Crowds, Faulty}
use Rattle.json_scanner.proofs.Numbers.{Opens, whole-opens, real_opens, opens-starts}
use Rattle.json_scanner.proofs.Shape.{Right, kinds-length}
use Rattle.json_scanner.proofs.Sound.{value_viable, viable_prefix}
use Rattle.json_scanner.proofs.Goes.{Goes, go, blanks, unsettled}
use Rattle.json_scanner.proofs.NumberRuns.{want, after, numbering, whole_run, real_run}
use Rattle.json_scanner.proofs.Complete.{Soft, Begun, Bad, first_in, first_key, next_key, stay_want, stay_first, stay_first_key, stay_next_key, opening-run, name_run, elements-run, entries_run, behind_le}
use Rattle.json_scanner.proofs.Places.{malformed, sound, stands, take_one}

-- ---- a run to where a value is wanted

join2 : (u w r : List ℕ) → u ++ (w ++ r) ≡ (u ++ w) ++ r
join2 u w r = sym (append_assoc u w r)

join_next : (e y a r : List ℕ) → e ++ (y ++ (a ++ r)) ≡ (e ++ (y ++ a)) ++ r
join_next e y a r = simp append_assoc

join_field : (e y n a r : List ℕ) → e ++ (y ++ (n ++ (a ++ r))) ≡ ((e ++ (y ++ n)) ++ a) ++ r
join_field e y n a r = simp append_assoc

module _ (N : ℕ) (P : Result Tree Fault → Type 0) (rest : List ℕ) (h : Begun rest) where
  -- a limit that is passed before the rest will do
  abbrev pub Early : Type 0
  Early = (g : Fault) → Soft g → place_of g + length rest < N → P (Err g)

  early : (F : Type 0) (more : List ℕ) → Early → length rest ≤ length more → Bad N P F more
  early F more all le out g so lt = all g so (omega arith)

  first_goes : (f : Frame) (bs : List Frame) (n i : ℕ) → Goes N P (want (items nil) (f ∷ bs) n) i rest → Goes N P (first_in f bs n) i rest
  first_goes f bs n i g = grind (arith, nat_tests)

  inner_run : {g : Frame} {w : List ℕ} (f : Frame) (bs : List Frame) (n : ℕ) → Inner g w → Early → ((j m : ℕ) → m ≡ n + suc 0 + (values_before g (f ∷ bs) - suc (values_before f bs)) → Goes N P (want g (f ∷ bs) m) j rest) → (i : ℕ) → Goes N P (want f bs n) i (w ++ rest)
  inner_run f bs n (Inner.first {a = a} ba) all k i =
      opening-run N P f bs n i 91 (a ++ rest) (a ++ rest) ⊥ mode.First container.List (omega arith) refl (λ z. absurd z) (λ z. absurd z) (early ⊥ (a ++ rest) all (behind_le a rest))
      (λ _ _. blanks N P (first_in f bs (n + 1)) rest (stay_first f bs (n + 1)) ba (λ j. first_goes f bs (n + 1) j (k j (n + 1) (omega arith))) (i + 1))
  inner_run f bs n (Inner.next {ts = ts} {e = e} {a = a} el ba) all k i =
      subst (Goes N P (want f bs n) i) (ap (λ l. 91 ∷ l) (join_next e (44 ∷ []) a rest))
      (opening-run N P f bs n i 91 (e ++ (44 ∷ (a ++ rest))) rest ⊥ mode.First container.List (omega (arith, behind_le a rest, behind_le e (44 ∷ (a ++ rest)))) refl (λ z. absurd z) (λ z. absurd z) (early ⊥ rest all (omega arith))
      (λ _ _. elements-run N P el f bs (n + 1) (44 ∷ (a ++ rest)) refl (early _ (44 ∷ (a ++ rest)) all (omega (arith, behind_le a rest)))
      (λ j m em _ _. go N P (after (items ts) (f ∷ bs) m) (want (items ts) (f ∷ bs) m) j 44 (a ++ rest) refl (blanks N P (want (items ts) (f ∷ bs) m) rest (stay_want (items ts) (f ∷ bs) m) ba (λ j. k j m (omega arith)) (j + 1))) (i + 1)))
  inner_run f bs n (Inner.first_field {k = key} {n = m} {a = a} na ba) all k i =
      subst (Goes N P (want f bs n) i) (ap (λ l. 123 ∷ l) (join2 m a rest))
      (opening-run N P f bs n i 123 (m ++ (a ++ rest)) rest ⊥ mode.FirstKey container.Object (omega (arith, behind_le a rest, behind_le m (a ++ rest))) refl (λ z. absurd z) (λ z. absurd z) (early ⊥ rest all (omega arith))
      (λ _ _. name_run N P (first_key f bs (n + 1)) none f bs (n + 1) (a ++ rest) (stay_first_key f bs (n + 1)) (λ i. refl) na
      (blanks N P (want (field none key) (f ∷ bs) (n + 1)) rest (stay_want (field none key) (f ∷ bs) (n + 1)) ba (λ j. k j (n + 1) (omega arith))) (i + 1)))
  inner_run f bs n (Inner.next_field {ms = ms} {k = key} {e = e} {n = m} {a = a} en na ba) all k i =
      subst (Goes N P (want f bs n) i) (ap (λ l. 123 ∷ l) (join_field e (44 ∷ []) m a rest))
      (opening-run N P f bs n i 123 (e ++ (44 ∷ (m ++ (a ++ rest)))) rest ⊥ mode.FirstKey container.Object (omega (arith, behind_le a rest, behind_le m (a ++ rest), behind_le e (44 ∷ (m ++ (a ++ rest))))) refl (λ z. absurd z) (λ z. absurd z) (early ⊥ rest all (omega arith))
      (λ _ _. entries_run N P en f bs (n + 1) (44 ∷ (m ++ (a ++ rest))) refl (early _ (44 ∷ (m ++ (a ++ rest))) all (omega (arith, behind_le a rest, behind_le m (a ++ rest))))
      (λ j q eq _ _. go N P (after (fields ms) (f ∷ bs) q) (next_key ms f bs q) j 44 (m ++ (a ++ rest)) refl
      (name_run N P (next_key ms f bs q) ms f bs q (a ++ rest) (stay_next_key ms f bs q) (λ i. refl) na
      (blanks N P (want (field ms key) (f ∷ bs) q) rest (stay_want (field ms key) (f ∷ bs) q) ba (λ j. k j q (omega arith))) (j + 1))) (i + 1)))

-- the first byte inside a container
inner_begun : {g : Frame} {w : List ℕ} (r : List ℕ) → Inner g w → Begun (w ++ r)
inner_begun r (Inner.first ba) = (91, _, refl, refl)
inner_begun r (Inner.next el ba) = (91, _, refl, refl)
inner_begun r (Inner.first_field na ba) = (123, _, refl, refl)
inner_begun r (Inner.next_field en na ba) = (123, _, refl, refl)

pub place-run : (N : ℕ) (P : Result Tree Fault → Type 0) {f : Frame} {bs : List Frame} {u : List ℕ} (rest : List ℕ) → Begun rest → Place f bs u → ((g : Fault) → Soft g → place_of g + length rest < N → P (Err g))
    → ((j m : ℕ) → m ≡ values_before f bs → Goes N P (want f bs m) j rest) → Goes N P start 0 (u ++ rest)
place-run N P rest h (top ba) all k = blanks N P start rest (stay_want bare [] 0) ba (λ j. k j 0 refl) 0
place-run N P rest h (within {f = f} {g = g} {bs = bs} {u = u} {w = w} pl inn) all k =
    subst (Goes N P start 0) (join2 u w rest)
    (place-run N P (w ++ rest) (inner_begun rest inn) pl (λ q so lt. all q so (omega (arith, behind_le w rest)))
    (λ j m em. inner_run N P rest h f bs m inn all (λ j q eq. k j q (omega arith)) j))

-- ---- a number that is one value too many

module _ (P : Result Tree Fault → Type 0) (from : ℕ) (f : Frame) (bs : List Frame) (n : ℕ) (many : leb 4096 n ≡ true) (misfit : P (Err (fault.Number from))) (crowded : P (Err (fault.Crowded from))) where
  broken : (i : ℕ) → P (Err (broken_off n from i))
  broken i = grind (arith, nat_tests)

  judged_crowded : (i : ℕ) (s : List ℕ) (v : Result Figures NumberError) (g : Figures) → ((x : Figures) → P (run (numbering x from f bs n) (i + 1) s)) → P (then (carried (judged v n from i) (numbering g from f bs n)) (λ y. run y (i + 1) s))
  judged_crowded i s (Ok x) g ih = ih x
  judged_crowded i s (Err number_error.Unfit) g ih = misfit
  judged_crowded i s (Err number_error.Broken) g ih = broken i

  -- the end of an integer, or none
  settled_crowded : (g : Figures) (k : Ready → Result Tree Fault) → P (k (still (mode.Number g from) n)) → P (then (settled (mode.Number g from) n) k)
  settled_crowded figures.Minus k h = h
  settled_crowded (figures.Whole x y) k h = grind (arith, nat_tests)
  settled_crowded figures.Point k h = h
  settled_crowded figures.Power k h = h
  settled_crowded figures.Sign k h = h

  then-then : {X Y Z : Type 0} (r : Result X Fault) (k : X → Result Y Fault) (l : Y → Result Z Fault) → then (then r k) l ≡ then r (λ x. then (k x) l)
  then-then (Ok x) k l = refl
  then-then (Err e) k l = refl

  number_crowded : (l : List ℕ) (g : Figures) (i : ℕ) → P (run (numbering g from f bs n) i l)
  number_crowded [] g i = grind (arith, nat_tests)
  number_crowded (b ∷ s) g i =
      let st : State = numbering g from f bs n in
      let here : P (then (stepped i st b) (λ y. run y (i + 1) s)) = judged_crowded i s (figured g b) g (λ x. number_crowded s x (i + 1)) in
      let k : Ready → Result Tree Fault = λ r. then (stepped i (prepared r st) b) (λ y. run y (i + 1) s) in
      subst P (sym (then-then (readied b (mode.Number g from) n) (λ r. stepped i (prepared r st) b) (λ y. run y (i + 1) s)))
      (cond_both (figure b) _ _ (λ r. P (then r k)) (λ _. here) (λ _. settled_crowded g k here))

-- ---- the faults

-- the outcome is a fault that counts before g, or g itself
abbrev pub Counted : Fault → Result Tree Fault → Type 0
Counted g o = (f : Fault) × (o ≡ Err f) × CountsFirst f g

counted_early : (g q : Fault) → place_of q < place_of g → Counted g (Err q)
counted_early g q lt = (q, refl, inl lt)

counted_here : (g q : Fault) → place_of q ≡ place_of g → number_of q ≤ number_of g → Counted g (Err q)
counted_here g q e le = (q, refl, inr (e, le))

bracket_starts : (b : ℕ) → (eqb b 91 || eqb b 123) ≡ true → starts b ≡ true
bracket_starts b e = grind (arith, nat_tests)

-- a bracket in 200 others
deep_step : (f : Frame) (bs : List Frame) (m j b : ℕ) → 200 ≤ length bs → (eqb b 91 ≡ true) ⊎ (eqb b 123 ≡ true) → step j (want f bs m) b ≡ Err (fault.Nested j)
deep_step f bs m j b deep (inl e) =
    subst (λ x. step j (want f bs m) x ≡ Err (fault.Nested j)) (sym (eqb-true b 91 e)) (ap (λ mv. carried mv (want f bs m)) (cond-true (leb 200 (length (kinds f bs))) _ _ (ap (leb 200) (kinds-length f bs) ∙ le-leb 200 (length bs) deep)))
deep_step f bs m j b deep (inr e) =
    subst (λ x. step j (want f bs m) x ≡ Err (fault.Nested j)) (sym (eqb-true b 123 e)) (ap (λ mv. carried mv (want f bs m)) (cond-true (leb 200 (length (kinds f bs))) _ _ (ap (leb 200) (kinds-length f bs) ∙ le-leb 200 (length bs) deep)))

nested_first : (s : List ℕ) (p : ℕ) → Nests s p → Counted (fault.Nested p) (run start 0 s)
nested_first s p h =
    let g : Fault = fault.Nested p in
    let place = h.place in
    let all : List ℕ = h.before ++ h.b ∷ h.rest in
    let long : length all ≡ length h.before + suc (length h.rest) = length-append h.before (h.b ∷ h.rest) in
    subst (λ l. Counted g (run start 0 l)) (sym h.split)
    (place-run (length all) (Counted g) (h.b ∷ h.rest) (h.b, h.rest, bracket_starts h.b h.bracket, refl) h.wanted (λ q so lt. counted_early g q (omega arith))
    (λ j m em eq. subst (λ z. Counted g (then z (λ y. run y (j + 1) h.rest))) (sym (deep_step h.f h.bs m j h.b h.deep (or_cases (eqb h.b 91) (eqb h.b 123) h.bracket))) (counted_here g (fault.Nested j) (omega arith) (omega arith)))
    (omega arith))

unfit-opens : {d : List ℕ} → Unfit d → Opens d
unfit-opens (inl x) = whole-opens x.2
unfit-opens (inr r) = real_opens r

unfit-run : (N : ℕ) (P : Result Tree Fault → Type 0) (f : Frame) (bs : List Frame) (m j : ℕ) (d rest : List ℕ) → Unfit d → P (Err (fault.Number j)) → Goes N P (want f bs m) j (d ++ rest)
unfit-run N P f bs m j d rest (inl x) bad = whole_run N P f bs m rest j x.2 (λ _. bad) (λ fit. absurd (false≢true (sym fit ∙ x.3)))
unfit-run N P f bs m j d rest (inr r) bad = real_run N P f bs m rest j r bad

number_first : (s : List ℕ) (p : ℕ) → Misfits s p → Counted (fault.Number p) (run start 0 s)
number_first s p h =
    let g : Fault = fault.Number p in
    let place = h.place in
    let more : List ℕ = h.digits ++ h.rest in
    let long : length (h.before ++ more) ≡ length h.before + length more = length-append h.before more in
    let o = unfit-opens h.misfit in
    subst (λ l. Counted g (run start 0 l)) (sym h.split)
    (place-run (length (h.before ++ more)) (Counted g) more (o.0, o.1 ++ h.rest, opens-starts o.0 o.2, ap (λ l. l ++ h.rest) o.3) h.wanted (λ q so lt. counted_early g q (omega arith))
    (λ j m em eq. unfit-run (length (h.before ++ more)) (Counted g) h.f h.bs m j h.digits h.rest h.misfit (counted_here g (fault.Number j) (omega arith) (omega arith)) eq)
    (omega arith))

-- a value that begins behind 4,096 others
crowded_begins : (P : Result Tree Fault → Type 0) (f : Frame) (bs : List Frame) (n j b : ℕ) (r : List ℕ) → starts b ≡ true → leb 4096 n ≡ true → P (Err (fault.Nested j)) → P (Err (fault.Number j)) → P (Err (fault.Crowded j)) → P (run (want f bs n) j (b ∷ r))
crowded_begins P f bs n j b r st many nested misfit crowded =
    let Q : Moved → Type 0 = λ mv. P (then (carried mv (want f bs n)) (λ y. run y (j + 1) r)) in
    let opens : (m : Mode) (c : Container) → Q (opening (surroundings j (kinds f bs) n) m c) = λ m c. cond_both (leb 200 (length (kinds f bs))) _ _ Q (λ _. nested) (λ _. cond_both (leb 4096 n) _ _ Q (λ _. crowded) (λ e. absurd (false≢true (sym e ∙ many)))) in
    let scalar : (m : Mode) → Q (beginning (surroundings j (kinds f bs) n) m) = λ m. cond_both (leb 4096 n) _ _ Q (λ _. crowded) (λ e. absurd (false≢true (sym e ∙ many))) in
    subst (λ z. P (then z (λ y. run y (j + 1) r))) (sym (unsettled j b mode.Want n [] f bs refl))
    (cond_both (white b) _ _ Q (λ w. let z : starts b ≡ false = grind (arith, nat_tests) in absurd (false≢true (sym z ∙ st)))
    (λ _. cond_both (eqb b 91) _ _ Q (λ _. opens mode.First container.List)
    (λ x91. cond_both (eqb b 123) _ _ Q (λ _. opens mode.FirstKey container.Object)
    (λ x123. cond_both (eqb b 45) _ _ Q (λ _. number_crowded P j f bs n many misfit crowded r figures.Minus (j + 1))
    (λ x45. cond_both (is_ascii_digit b) _ _ Q (λ _. number_crowded P j f bs n many misfit crowded r (figures.Whole false (b - 48)) (j + 1))
    (λ xd. cond_both (eqb b 34) _ _ Q (λ _. scalar _)
    (λ x34. cond_both (eqb b 110) _ _ Q (λ _. scalar _)
    (λ x110. cond_both (eqb b 116) _ _ Q (λ _. scalar _)
    (λ x116. cond_both (eqb b 102) _ _ Q (λ _. scalar _)
    (λ x102. absurd (false≢true (sym (or_from (is_ascii_digit b) _ xd (or_from (eqb b 45) _ x45 (or_from (eqb b 34) _ x34 (or_from (eqb b 91) _ x91 (or_from (eqb b 123) _ x123 (or_from (eqb b 110) _ x110 (or_from (eqb b 116) _ x116 x102))))))) ∙ st))))))))))))

crowded_first : (s : List ℕ) (p : ℕ) → Crowds s p → Counted (fault.Crowded p) (run start 0 s)
crowded_first s p h =
    let g : Fault = fault.Crowded p in
    let place = h.place in
    let all : List ℕ = h.before ++ h.b ∷ h.rest in
    let long : length all ≡ length h.before + suc (length h.rest) = length-append h.before (h.b ∷ h.rest) in
    subst (λ l. Counted g (run start 0 l)) (sym h.split)
    (place-run (length all) (Counted g) (h.b ∷ h.rest) (h.b, h.rest, h.begins, refl) h.wanted (λ q so lt. counted_early g q (omega arith))
    (λ j m em eq. crowded_begins (Counted g) h.f h.bs m j h.b h.rest h.begins (ap (leb 4096) em ∙ le-leb 4096 (values_before h.f h.bs) h.many)
    (counted_here g (fault.Nested j) (omega arith) (omega arith)) (counted_here g (fault.Number j) (omega arith) (omega arith)) (counted_here g (fault.Crowded j) (omega arith) (omega arith)))
    (omega arith))

-- ---- a malformed text: the other faults stand where it is still viable

begin_value : (b : ℕ) → starts b ≡ true → (q : List ℕ) × (v : Tree) × Value v (b ∷ q)
begin_value b st = digit (or_cases (is_ascii_digit b) _ st)
  where
    at : (c : ℕ) → eqb b c ≡ true → (q : List ℕ) × (v : Tree) × Value v (c ∷ q) → (q : List ℕ) × (v : Tree) × Value v (b ∷ q)
    at c e h = subst (λ x. (q : List ℕ) × (v : Tree) × Value v (x ∷ q)) (sym (eqb-true b c e)) h

    words : (eqb b 116 ≡ true) ⊎ (eqb b 102 ≡ true) → (q : List ℕ) × (v : Tree) × Value v (b ∷ q)
    words (inl e) = at 116 e (_, _, Value.true_word)
    words (inr e) = at 102 e (_, _, Value.false_word)

    null : (eqb b 110 ≡ true) ⊎ ((eqb b 116 || eqb b 102) ≡ true) → (q : List ℕ) × (v : Tree) × Value v (b ∷ q)
    null (inl e) = at 110 e (_, _, Value.null_word)
    null (inr e) = words (or_cases (eqb b 116) (eqb b 102) e)

    object : (eqb b 123 ≡ true) ⊎ ((eqb b 110 || (eqb b 116 || eqb b 102)) ≡ true) → (q : List ℕ) × (v : Tree) × Value v (b ∷ q)
    object (inl e) = at 123 e (125 ∷ [], _, Value.empty_object Blank.none)
    object (inr e) = null (or_cases (eqb b 110) _ e)

    list : (eqb b 91 ≡ true) ⊎ ((eqb b 123 || (eqb b 110 || (eqb b 116 || eqb b 102))) ≡ true) → (q : List ℕ) × (v : Tree) × Value v (b ∷ q)
    list (inl e) = at 91 e (93 ∷ [], _, Value.empty_list Blank.none)
    list (inr e) = object (or_cases (eqb b 123) _ e)

    quote : (eqb b 34 ≡ true) ⊎ ((eqb b 91 || (eqb b 123 || (eqb b 110 || (eqb b 116 || eqb b 102)))) ≡ true) → (q : List ℕ) × (v : Tree) × Value v (b ∷ q)
    quote (inl e) = at 34 e (34 ∷ [], _, Value.string Chars.none)
    quote (inr e) = list (or_cases (eqb b 91) _ e)

    minus : (eqb b 45 ≡ true) ⊎ ((eqb b 34 || (eqb b 91 || (eqb b 123 || (eqb b 110 || (eqb b 116 || eqb b 102))))) ≡ true) → (q : List ℕ) × (v : Tree) × Value v (b ∷ q)
    minus (inl e) = at 45 e (49 ∷ [], _, Value.whole (Whole.minus (Numeral.digit 49 refl)))
    minus (inr e) = quote (or_cases (eqb b 34) _ e)

    digit : (is_ascii_digit b ≡ true) ⊎ ((eqb b 45 || (eqb b 34 || (eqb b 91 || (eqb b 123 || (eqb b 110 || (eqb b 116 || eqb b 102)))))) ≡ true) → (q : List ℕ) × (v : Tree) × Value v (b ∷ q)
    digit (inl e) = ([], _, Value.whole (Whole.plus (Numeral.digit b e)))
    digit (inr e) = minus (or_cases (eqb b 45) _ e)

-- a value begins at q, where one is wanted
pub record Starts (s : List ℕ) (q : ℕ) : Type 0 where
  pub within : q < length s
  pub far : Viable (take (q + 1) s)

starts_at : {f : Frame} {bs : List Frame} {u : List ℕ} (s : List ℕ) (q b : ℕ) (rest : List ℕ) → s ≡ u ++ b ∷ rest → q ≡ length u → Place f bs u → starts b ≡ true → Starts s q
starts_at {u = u} s q b rest split place pl st =
    let v = begin_value b st in
    record {
      within = omega (arith, ap length split, length-append u (b ∷ rest));
      far = subst Viable (sym (ap (λ n. take (n + 1) s) place ∙ (ap (take (length u + 1)) split ∙ take_one u b rest))) (viable_prefix (u ++ b ∷ []) v.0 (subst Viable (sym (append_assoc u (b ∷ []) v.0)) (value_viable pl v.2)));
    }

right_starts : (s : List ℕ) (f : Fault) → Soft f → Right s f → Starts s (place_of f)
right_starts s (fault.Malformed p) so h = absurd so
right_starts s (fault.Nested p) so h = starts_at s p h.b h.rest h.split h.place h.wanted (bracket_starts h.b h.bracket)
right_starts s (fault.Number p) so h =
    let o = unfit-opens h.misfit in
    starts_at s p o.0 (o.1 ++ h.rest) (h.split ∙ ap (λ l. h.before ++ (l ++ h.rest)) o.3) h.place h.wanted (opens-starts o.0 o.2)
right_starts s (fault.Crowded p) so h = starts_at s p h.b h.rest h.split h.place h.wanted h.begins

viable_take : (m n : ℕ) (s : List ℕ) → m ≤ n → Viable (take n s) → Viable (take m s)
viable_take m n s le h = viable_prefix (take m s) (drop m (take n s)) (subst Viable (sym (take-append-drop m (take n s)) ∙ ap (λ l. l ++ drop m (take n s)) (take-take m n s le)) h)

-- no text goes on behind a break
after_break : (s : List ℕ) (p q : ℕ) → Breaks s p → q < length s → Viable (take (q + 1) s) → p ≤ q → ⊥
after_break s p q h lt v le = h.no_more (omega arith) (viable_take (p + 1) (q + 1) s (omega arith) v)

soft_early : (s : List ℕ) (p : ℕ) (f : Fault) → Breaks s p → Starts s (place_of f) → (place_of f < p) ⊎ (p ≤ place_of f) → CountsFirst f (fault.Malformed p)
soft_early s p f h st (inl lt) = inl lt
soft_early s p f h st (inr le) = absurd (after_break s p (place_of f) h st.within st.far le)

-- two breaks of one text
break_le : (s : List ℕ) (p q : ℕ) → Breaks s p → Breaks s q → (q < p) ⊎ (p ≤ q) → p ≤ q
break_le s p q h k (inr le) = le
break_le s p q h k (inl lt) = absurd (k.no_more (let a = h.inside in omega arith) (viable_take (q + 1) p s (omega arith) h.so_far))

pub one_break : (s : List ℕ) (p q : ℕ) → Breaks s p → Breaks s q → p ≡ q
one_break s p q h k = let a = break_le s p q h k (cases_lt q p) in let b = break_le s q p k h (cases_lt p q) in omega arith

malformed_first : (s : List ℕ) (p : ℕ) (r : Result Tree Fault) → run start 0 s ≡ r → Breaks s p → Counted (fault.Malformed p) r
malformed_first s p (Ok v) e h = absurd (h.no_text v (sound s v e))
malformed_first s p (Err (fault.Malformed q)) e h = let same = one_break s p q h (malformed s q e) in counted_here (fault.Malformed p) (fault.Malformed q) (omega arith) (omega arith)
malformed_first s p (Err (fault.Nested q)) e h = (fault.Nested q, refl, soft_early s p (fault.Nested q) h (right_starts s (fault.Nested q) tt (stands s (fault.Nested q) e)) (cases_lt q p))
malformed_first s p (Err (fault.Number q)) e h = (fault.Number q, refl, soft_early s p (fault.Number q) h (right_starts s (fault.Number q) tt (stands s (fault.Number q) e)) (cases_lt q p))
malformed_first s p (Err (fault.Crowded q)) e h = (fault.Crowded q, refl, soft_early s p (fault.Crowded q) h (right_starts s (fault.Crowded q) tt (stands s (fault.Crowded q) e)) (cases_lt q p))

-- a text with a fault is refused for it, or for one that counts before it
pub first_fault : (s : List ℕ) (g : Fault) → Faulty s g → Counted g (run start 0 s)
first_fault s (fault.Malformed p) h = malformed_first s p (run start 0 s) refl h
first_fault s (fault.Nested p) h = nested_first s p h
first_fault s (fault.Number p) h = number_first s p h
first_fault s (fault.Crowded p) h = crowded_first s p h
