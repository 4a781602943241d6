-- Every text of the grammar is read to its end, or to a limit.
use Rattle.std.proofs.Common.{◌≡◌, ℕ, suc, ◌+◌, ◌<◌, ◌≤◌, true, false, eqb, leb, List, [], ◌∷◌, ◌++◌, length, Ok, Err, Result, sym, refl, ap, ◌∙◌, subst, append_assoc, append-nil, arith, length-append}
use Rattle.std.proofs.lemmas.Bool.{cond_both, or_from, or_parts, leb-false, leb-true, false≢true}
use Rattle.std.proofs.lemmas.Bool.Decides.{nat_tests}
use Rattle.json_scanner.specs.declared.modes.Role.TheVariants as role
use Rattle.json_scanner.specs.declared.modes.Inside.TheVariants as inside
use Rattle.json_scanner.specs.declared.modes.Mode.{Mode}
use Rattle.json_scanner.specs.declared.modes.Mode.TheVariants as mode
use Rattle.json_scanner.specs.declared.modes.Act.{Act}
use Rattle.json_scanner.specs.declared.modes.Act.TheVariants as act
use Rattle.json_scanner.specs.declared.modes.Container.{Container}
use Rattle.json_scanner.specs.declared.modes.Container.TheVariants as container
use Rattle.json_scanner.specs.declared.modes.Fault.{Fault}
use Rattle.json_scanner.specs.declared.modes.Fault.TheVariants as fault
use Rattle.json_scanner.specs.Grammar.{Tree, Trees, nil, snoc, Members, none, with, over, overs, over_members, size, sizes, member_sizes, white, Name, Value, Elements, Entries, Text}
use Rattle.json_scanner.specs.Bytes.{Moved, opening, beginning, then}
use Rattle.json_scanner.specs.Machine.{State, Frame, bare, sole, items, fields, field, kinds, put, surroundings, performed, carried, step, run, start}
use Rattle.json_scanner.specs.Faults.{starts, place_of}
use Rattle.json_scanner.proofs.Shape.{made_of, kinds-length}
use Rattle.json_scanner.proofs.Numbers.{Opens, whole-opens, real_opens, opens-starts}
use Rattle.json_scanner.proofs.Goes.{Goes, go, blanks, Stops, blank_stops, chars_run}
use Rattle.json_scanner.proofs.NumberRuns.{want, after, whole_run, real_run, number_stops}

abbrev pub first_in : Frame → List Frame → ℕ → State
first_in f bs n = made_of mode.First n [] (items nil) (f ∷ bs)

abbrev pub first_key : Frame → List Frame → ℕ → State
first_key f bs n = made_of mode.FirstKey n [] (fields none) (f ∷ bs)

abbrev pub next_key : Members → Frame → List Frame → ℕ → State
next_key ms f bs n = made_of mode.NextKey n [] (fields ms) (f ∷ bs)

abbrev colon_at : Members → List ℕ → Frame → List Frame → ℕ → State
colon_at ms k f bs n = made_of mode.Colon n [] (field ms k) (f ∷ bs)

-- ---- blanks

pub stay_want : (f : Frame) (bs : List Frame) (n i b : ℕ) → white b ≡ true → step i (want f bs n) b ≡ Ok (want f bs n)
stay_want f bs n i b e = grind (arith, nat_tests)

not_93 : (b : ℕ) → white b ≡ true → eqb b 93 ≡ false
not_93 b e = grind (arith, nat_tests)

not_125 : (b : ℕ) → white b ≡ true → eqb b 125 ≡ false
not_125 b e = grind (arith, nat_tests)

pub stay_first : (f : Frame) (bs : List Frame) (n i b : ℕ) → white b ≡ true → step i (first_in f bs n) b ≡ Ok (first_in f bs n)
stay_first f bs n i b e = grind (arith, nat_tests)

pub stay_first_key : (f : Frame) (bs : List Frame) (n i b : ℕ) → white b ≡ true → step i (first_key f bs n) b ≡ Ok (first_key f bs n)
stay_first_key f bs n i b e = grind (arith, nat_tests)

pub stay_next_key : (ms : Members) (f : Frame) (bs : List Frame) (n i b : ℕ) → white b ≡ true → step i (next_key ms f bs n) b ≡ Ok (next_key ms f bs n)
stay_next_key ms f bs n i b e = grind (arith, nat_tests)

stay_colon : (ms : Members) (k : List ℕ) (f : Frame) (bs : List Frame) (n i b : ℕ) → white b ≡ true → step i (colon_at ms k f bs n) b ≡ Ok (colon_at ms k f bs n)
stay_colon ms k f bs n i b e = grind (arith, nat_tests)

stay_after : (f : Frame) (bs : List Frame) (n i b : ℕ) → white b ≡ true → step i (after f bs n) b ≡ Ok (after f bs n)
stay_after f bs n i b e = grind (arith, nat_tests)

-- ---- a value begins in a list as elsewhere

performed-any : (m k l : Mode) (n : ℕ) (cs : List ℕ) (f : Frame) (bs : List Frame) (x : Act) → performed x l (made_of m n cs f bs) ≡ performed x l (made_of k n cs f bs)
performed-any m k l n cs f bs act.Stay = refl
performed-any m k l n cs f bs act.Begin = refl
performed-any m k l n cs f bs (act.Open c) = refl
performed-any m k l n cs f bs act.Close = refl
performed-any m k l n cs f bs (act.Add p) = refl
performed-any m k l n cs f bs act.Key = refl
performed-any m k l n cs f bs act.Text = refl
performed-any m k l n cs f bs act.Null = refl
performed-any m k l n cs f bs (act.Bool b) = refl

carried-any : (m k : Mode) (n : ℕ) (cs : List ℕ) (f : Frame) (bs : List Frame) (mv : Moved) → carried mv (made_of m n cs f bs) ≡ carried mv (made_of k n cs f bs)
carried-any m k n cs f bs (Ok x) = ap Ok (performed-any m k x.mode n cs f bs x.act)
carried-any m k n cs f bs (Err g) = refl

pub first_step : (f : Frame) (bs : List Frame) (n i b : ℕ) → starts b ≡ true → step i (first_in f bs n) b ≡ step i (want (items nil) (f ∷ bs) n) b
first_step f bs n i b e = grind (arith, nat_tests)

-- the first byte of a value
abbrev pub Begun : List ℕ → Type 0
Begun s = (b : ℕ) × (r : List ℕ) × (starts b ≡ true) × (s ≡ b ∷ r)

begun_number : {s : List ℕ} → Opens s → Begun s
begun_number h = (h.0, h.1, opens-starts h.0 h.2, h.3)

value-begun : {v : Tree} {s : List ℕ} → Value v s → Begun s
value-begun Value.null_word = (110, _, refl, refl)
value-begun Value.true_word = (116, _, refl, refl)
value-begun Value.false_word = (102, _, refl, refl)
value-begun (Value.whole w) = begun_number (whole-opens w)
value-begun (Value.broken r) = begun_number (real_opens r)
value-begun (Value.string ch) = (34, _, refl, refl)
value-begun (Value.empty_list ba) = (91, _, refl, refl)
value-begun (Value.full_list el) = (91, _, refl, refl)
value-begun (Value.empty_object ba) = (123, _, refl, refl)
value-begun (Value.full_object en) = (123, _, refl, refl)

-- ---- limits

abbrev pub Soft : Fault → Type 0
Soft (fault.Malformed p) = ⊥
Soft (fault.Nested p) = Unit {0}
Soft (fault.Number p) = Unit {0}
Soft (fault.Crowded p) = Unit {0}

-- a value behind n others, in d containers, is within the limits
abbrev pub Fit : ℕ → ℕ → Tree → Type 0
Fit d n v = (over d v ≡ false) × (n + size v ≤ 4096)

abbrev FitList : ℕ → ℕ → Trees → Type 0
FitList d n ts = (overs d ts ≡ false) × (n + sizes ts ≤ 4096)

abbrev FitObject : ℕ → ℕ → Members → Type 0
FitObject d n ms = (over_members d ms ≡ false) × (n + member_sizes ms ≤ 4096)

pub behind_le : (x rest : List ℕ) → length rest ≤ length (x ++ rest)
behind_le x rest = omega (arith, length-append x rest)

begun_lt : (N i : ℕ) (s rest : List ℕ) → Begun s → i + length (s ++ rest) ≡ N → i + length rest < N
begun_lt N i s rest h e = omega (arith, length-append s rest, ap length h.3)

-- ---- regrouping

join3 : (a s b rest : List ℕ) → a ++ (s ++ (b ++ rest)) ≡ ((a ++ s) ++ b) ++ rest
join3 a s b rest = simp append_assoc

join4 : (w y a s b rest : List ℕ) → w ++ (y ++ (a ++ (s ++ (b ++ rest)))) ≡ (((w ++ (y ++ a)) ++ s) ++ b) ++ rest
join4 w y a s b rest = simp append_assoc

join5 : (n a s b rest : List ℕ) → n ++ (a ++ (s ++ (b ++ rest))) ≡ (((n ++ a) ++ s) ++ b) ++ rest
join5 n a s b rest = simp append_assoc

join6 : (w y n a s b rest : List ℕ) → w ++ (y ++ (n ++ (a ++ (s ++ (b ++ rest))))) ≡ ((((w ++ (y ++ n)) ++ a) ++ s) ++ b) ++ rest
join6 w y n a s b rest = simp append_assoc

join_name : (a y s b c rest : List ℕ) → a ++ (y ++ (s ++ (y ++ (b ++ (c ++ rest))))) ≡ (((a ++ (y ++ s)) ++ (y ++ b)) ++ c) ++ rest
join_name a y s b c rest = simp append_assoc

module _ (N : ℕ) (P : Result Tree Fault → Type 0) where
  -- where a limit is passed before the rest, the fault will do
  abbrev pub Bad : Type 0 → List ℕ → Type 0
  Bad F rest = (F → ⊥) → (g : Fault) → Soft g → place_of g + length rest < N → P (Err g)

  pub bad_for : (F G : Type 0) (rest more : List ℕ) → Bad F rest → (F → G) → length rest ≤ length more → Bad G more
  bad_for F G rest more bad imp le out g so lt = bad (λ x. out (imp x)) g so (omega arith)

  pub opening-run : (f : Frame) (bs : List Frame) (n i b : ℕ) (r rest : List ℕ) (F : Type 0) (k : Mode) (c : Container) → length rest ≤ length r
      → step i (want f bs n) b ≡ carried (opening (surroundings i (kinds f bs) n) k c) (want f bs n) → (F → leb 200 (length bs) ≡ false) → (F → n < 4096) → Bad F rest
      → (leb 200 (length bs) ≡ false → n < 4096 → Goes N P (performed (act.Open c) k (want f bs n)) (i + 1) r) → Goes N P (want f bs n) i (b ∷ r)
  opening-run f bs n i b r rest F k c le is shallow few bad on eq =
      let Q : Moved → Type 0 = λ mv. P (then (carried mv (want f bs n)) (λ y. run y (i + 1) r)) in
      subst (λ z. P (then z (λ y. run y (i + 1) r))) (sym is)
      (cond_both (leb 200 (length (kinds f bs))) _ _ Q (λ h. bad (λ fit. absurd (false≢true (sym (shallow fit) ∙ (ap (leb 200) (sym (kinds-length f bs)) ∙ h)))) (fault.Nested i) tt (omega arith))
      (λ d. cond_both (leb 4096 n) _ _ Q (λ h. bad (λ fit. let lo = leb-true 4096 n h in let hi = few fit in omega arith) (fault.Crowded i) tt (omega arith))
      (λ h. on (ap (leb 200) (sym (kinds-length f bs)) ∙ d) (leb-false 4096 n h) (omega arith))))

  beginning-run : (f : Frame) (bs : List Frame) (n i b : ℕ) (r rest : List ℕ) (F : Type 0) (k : Mode) → length rest ≤ length r
      → step i (want f bs n) b ≡ carried (beginning (surroundings i (kinds f bs) n) k) (want f bs n) → (F → n < 4096) → Bad F rest
      → (n < 4096 → Goes N P (made_of k (n + 1) [] f bs) (i + 1) r) → Goes N P (want f bs n) i (b ∷ r)
  beginning-run f bs n i b r rest F k le is few bad on eq = grind (arith, nat_tests)

  pub first_run : {s : List ℕ} (f : Frame) (bs : List Frame) (n i : ℕ) (rest : List ℕ) → Begun s → Goes N P (want (items nil) (f ∷ bs) n) i (s ++ rest) → Goes N P (first_in f bs n) i (s ++ rest)
  first_run {s} f bs n i rest h g = grind (arith, nat_tests)

  pub name_run : {k m : List ℕ} (st : State) (ms : Members) (f : Frame) (bs : List Frame) (n : ℕ) (rest : List ℕ) → ((i b : ℕ) → white b ≡ true → step i st b ≡ Ok st)
      → ((i : ℕ) → step i st 34 ≡ Ok (made_of (mode.Text role.Key inside.Plain) n [] (fields ms) (f ∷ bs))) → Name k m → ((j : ℕ) → Goes N P (want (field ms k) (f ∷ bs) n) j rest) → (i : ℕ) → Goes N P st i (m ++ rest)
  name_run {k} st ms f bs n rest stay quote (Name.name {a = a} {s = s} {b = b} ba ch bb) on i =
      let key : List ℕ → State = λ cs. made_of (mode.Text role.Key inside.Plain) n cs (fields ms) (f ∷ bs) in
      subst (Goes N P st i) (join_name a (34 ∷ []) s b (58 ∷ []) rest)
      (blanks N P st (34 ∷ (s ++ (34 ∷ (b ++ (58 ∷ rest))))) stay ba
      (λ j. go N P st (key []) j 34 (s ++ (34 ∷ (b ++ (58 ∷ rest)))) (quote j)
      (chars_run N P role.Key n (fields ms) (f ∷ bs) (34 ∷ (b ++ (58 ∷ rest))) ch
      (λ j. go N P (key k) (colon_at ms k f bs n) j 34 (b ++ (58 ∷ rest)) refl
      (blanks N P (colon_at ms k f bs n) (58 ∷ rest) (stay_colon ms k f bs n) bb (λ j. go N P (colon_at ms k f bs n) (want (field ms k) (f ∷ bs) n) j 58 rest refl (on (j + 1))) (j + 1)))
      (j + 1))) i)

  mutual
    pub value-run : {v : Tree} {s : List ℕ} → Value v s → (f : Frame) (bs : List Frame) (n : ℕ) (rest : List ℕ) → Stops rest → Bad (Fit (length bs) n v) rest
        → ((j m : ℕ) → m ≡ n + size v → m ≤ 4096 → over (length bs) v ≡ false → Goes N P (after (put f v) bs m) j rest) → (i : ℕ) → Goes N P (want f bs n) i (s ++ rest)
    value-run Value.null_word f bs n rest sp bad k i = grind (arith, nat_tests)
    value-run Value.true_word f bs n rest sp bad k i = grind (arith, nat_tests)
    value-run Value.false_word f bs n rest sp bad k i = grind (arith, nat_tests)
    value-run (Value.whole {g = g} {n = amount} {s = s} w) f bs n rest sp bad k i = λ eq.
        let lt : i + length rest < N = begun_lt N i s rest (begun_number (whole-opens w)) eq in
        whole_run N P f bs n rest i w (λ un. bad (λ fit. absurd (false≢true (sym fit.0 ∙ un))) (fault.Number i) tt lt)
        (λ fits. number_stops N P f bs n g amount i rest sp (λ many. bad (λ fit. let lo = leb-true 4096 n many in let hi = fit.1 in omega arith) (fault.Crowded i) tt lt)
        (λ few j. let h = leb-false 4096 n few in k j (n + 1) refl (omega arith) fits)) eq
    value-run (Value.broken {s = s} r) f bs n rest sp bad k i = λ eq.
        real_run N P f bs n rest i r (bad (λ fit. absurd (false≢true (sym fit.0))) (fault.Number i) tt (begun_lt N i s rest (begun_number (real_opens r)) eq)) eq
    value-run (Value.string {cs = cs} {s = s} ch) f bs n rest sp bad k i =
        let quoted : List ℕ → State = λ t. made_of (mode.Text role.Value inside.Plain) (n + 1) t f bs in
        beginning-run f bs n i 34 ((s ++ 34 ∷ []) ++ rest) rest _ (mode.Text role.Value inside.Plain) (behind_le (s ++ 34 ∷ []) rest) refl (λ fit. let h = fit.1 in omega arith) bad
        (λ lt. subst (Goes N P (quoted []) (i + 1)) (sym (append_assoc s (34 ∷ []) rest))
        (chars_run N P role.Value (n + 1) f bs (34 ∷ rest) ch (λ j. go N P (quoted cs) (after (put f (Tree.text cs)) bs (n + 1)) j 34 rest refl (k (j + 1) (n + 1) refl (omega arith) refl)) (i + 1)))
    value-run (Value.empty_list {a = a} ba) f bs n rest sp bad k i =
        opening-run f bs n i 91 ((a ++ 93 ∷ []) ++ rest) rest _ mode.First container.List (behind_le (a ++ 93 ∷ []) rest) refl (λ fit. (or_parts (leb 200 (length bs)) false fit.0).0) (λ fit. let h = fit.1 in omega arith) bad
        (λ shallow lt. subst (Goes N P (first_in f bs (n + 1)) (i + 1)) (sym (append_assoc a (93 ∷ []) rest))
        (blanks N P (first_in f bs (n + 1)) (93 ∷ rest) (stay_first f bs (n + 1)) ba
        (λ j. go N P (first_in f bs (n + 1)) (after (put f (Tree.list nil)) bs (n + 1)) j 93 rest refl (k (j + 1) (n + 1) (omega arith) (omega arith) (or_from (leb 200 (length bs)) false shallow refl))) (i + 1)))
    value-run (Value.full_list {vs = vs} {s = s} el) f bs n rest sp bad k i =
        opening-run f bs n i 91 ((s ++ 93 ∷ []) ++ rest) rest _ mode.First container.List (behind_le (s ++ 93 ∷ []) rest) refl (λ fit. (or_parts (leb 200 (length bs)) (overs (suc (length bs)) vs) fit.0).0) (λ fit. let h = fit.1 in omega arith) bad
        (λ shallow lt. subst (Goes N P (first_in f bs (n + 1)) (i + 1)) (sym (append_assoc s (93 ∷ []) rest))
        (elements-run el f bs (n + 1) (93 ∷ rest) refl
        (bad_for (Fit (length bs) n (Tree.list vs)) (FitList (suc (length bs)) (n + 1) vs) rest (93 ∷ rest) bad (λ fit. ((or_parts (leb 200 (length bs)) (overs (suc (length bs)) vs) fit.0).1, let h = fit.1 in omega arith)) (omega arith))
        (λ j m em le ov. go N P (after (items vs) (f ∷ bs) m) (after (put f (Tree.list vs)) bs m) j 93 rest refl (k (j + 1) m (omega arith) le (or_from (leb 200 (length bs)) (overs (suc (length bs)) vs) shallow ov))) (i + 1)))
    value-run (Value.empty_object {a = a} ba) f bs n rest sp bad k i =
        opening-run f bs n i 123 ((a ++ 125 ∷ []) ++ rest) rest _ mode.FirstKey container.Object (behind_le (a ++ 125 ∷ []) rest) refl (λ fit. (or_parts (leb 200 (length bs)) false fit.0).0) (λ fit. let h = fit.1 in omega arith) bad
        (λ shallow lt. subst (Goes N P (first_key f bs (n + 1)) (i + 1)) (sym (append_assoc a (125 ∷ []) rest))
        (blanks N P (first_key f bs (n + 1)) (125 ∷ rest) (stay_first_key f bs (n + 1)) ba
        (λ j. go N P (first_key f bs (n + 1)) (after (put f (Tree.object none)) bs (n + 1)) j 125 rest refl (k (j + 1) (n + 1) (omega arith) (omega arith) (or_from (leb 200 (length bs)) false shallow refl))) (i + 1)))
    value-run (Value.full_object {ms = ms} {s = s} en) f bs n rest sp bad k i =
        opening-run f bs n i 123 ((s ++ 125 ∷ []) ++ rest) rest _ mode.FirstKey container.Object (behind_le (s ++ 125 ∷ []) rest) refl (λ fit. (or_parts (leb 200 (length bs)) (over_members (suc (length bs)) ms) fit.0).0) (λ fit. let h = fit.1 in omega arith) bad
        (λ shallow lt. subst (Goes N P (first_key f bs (n + 1)) (i + 1)) (sym (append_assoc s (125 ∷ []) rest))
        (entries_run en f bs (n + 1) (125 ∷ rest) refl
        (bad_for (Fit (length bs) n (Tree.object ms)) (FitObject (suc (length bs)) (n + 1) ms) rest (125 ∷ rest) bad (λ fit. ((or_parts (leb 200 (length bs)) (over_members (suc (length bs)) ms) fit.0).1, let h = fit.1 in omega arith)) (omega arith))
        (λ j m em le ov. go N P (after (fields ms) (f ∷ bs) m) (after (put f (Tree.object ms)) bs m) j 125 rest refl (k (j + 1) m (omega arith) le (or_from (leb 200 (length bs)) (over_members (suc (length bs)) ms) shallow ov))) (i + 1)))

    pub elements-run : {vs : Trees} {e : List ℕ} → Elements vs e → (f : Frame) (bs : List Frame) (n : ℕ) (rest : List ℕ) → Stops rest → Bad (FitList (suc (length bs)) n vs) rest
        → ((j m : ℕ) → m ≡ n + sizes vs → m ≤ 4096 → overs (suc (length bs)) vs ≡ false → Goes N P (after (items vs) (f ∷ bs) m) j rest) → (i : ℕ) → Goes N P (first_in f bs n) i (e ++ rest)
    elements-run (Elements.one {v = v} {a = a} {s = s} {b = b} ba val bb) f bs n rest sp bad k i =
        subst (Goes N P (first_in f bs n) i) (join3 a s b rest)
        (blanks N P (first_in f bs n) (s ++ (b ++ rest)) (stay_first f bs n) ba
        (λ j. first_run f bs n j (b ++ rest) (value-begun val)
        (value-run val (items nil) (f ∷ bs) n (b ++ rest) (blank_stops rest bb sp)
        (bad_for (FitList (suc (length bs)) n (snoc nil v)) (Fit (suc (length bs)) n v) rest (b ++ rest) bad (λ fit. (fit.0, let h = fit.1 in omega arith)) (behind_le b rest))
        (λ j m em le ov. blanks N P (after (items (snoc nil v)) (f ∷ bs) m) rest (stay_after (items (snoc nil v)) (f ∷ bs) m) bb (λ j. k j m (omega arith) le ov) j) j)) i)
    elements-run (Elements.more {vs = vs} {v = v} {w = w} {a = a} {s = s} {b = b} el ba val bb) f bs n rest sp bad k i =
        subst (Goes N P (first_in f bs n) i) (join4 w (44 ∷ []) a s b rest)
        (elements-run el f bs n (44 ∷ (a ++ (s ++ (b ++ rest)))) refl
        (bad_for (FitList (suc (length bs)) n (snoc vs v)) (FitList (suc (length bs)) n vs) rest (44 ∷ (a ++ (s ++ (b ++ rest)))) bad (λ fit. ((or_parts (overs (suc (length bs)) vs) (over (suc (length bs)) v) fit.0).0, let h = fit.1 in omega arith)) (omega (arith, behind_le b rest, behind_le s (b ++ rest), behind_le a (s ++ (b ++ rest)))))
        (λ j m em le ov. go N P (after (items vs) (f ∷ bs) m) (want (items vs) (f ∷ bs) m) j 44 (a ++ (s ++ (b ++ rest))) refl
        (blanks N P (want (items vs) (f ∷ bs) m) (s ++ (b ++ rest)) (stay_want (items vs) (f ∷ bs) m) ba
        (value-run val (items vs) (f ∷ bs) m (b ++ rest) (blank_stops rest bb sp)
        (bad_for (FitList (suc (length bs)) n (snoc vs v)) (Fit (suc (length bs)) m v) rest (b ++ rest) bad (λ fit. ((or_parts (overs (suc (length bs)) vs) (over (suc (length bs)) v) fit.0).1, let h = fit.1 in omega arith)) (behind_le b rest))
        (λ j p ep lp op. blanks N P (after (items (snoc vs v)) (f ∷ bs) p) rest (stay_after (items (snoc vs v)) (f ∷ bs) p) bb (λ j. k j p (omega arith) lp (or_from (overs (suc (length bs)) vs) (over (suc (length bs)) v) ov op)) j)) (j + 1))) i)

    pub entries_run : {ms : Members} {e : List ℕ} → Entries ms e → (f : Frame) (bs : List Frame) (n : ℕ) (rest : List ℕ) → Stops rest → Bad (FitObject (suc (length bs)) n ms) rest
        → ((j m : ℕ) → m ≡ n + member_sizes ms → m ≤ 4096 → over_members (suc (length bs)) ms ≡ false → Goes N P (after (fields ms) (f ∷ bs) m) j rest) → (i : ℕ) → Goes N P (first_key f bs n) i (e ++ rest)
    entries_run (Entries.sole {k = key} {v = v} {n = m} {a = a} {s = s} {b = b} na ba val bb) f bs n rest sp bad k i =
        subst (Goes N P (first_key f bs n) i) (join5 m a s b rest)
        (name_run (first_key f bs n) none f bs n (a ++ (s ++ (b ++ rest))) (stay_first_key f bs n) (λ i. refl) na
        (blanks N P (want (field none key) (f ∷ bs) n) (s ++ (b ++ rest)) (stay_want (field none key) (f ∷ bs) n) ba
        (value-run val (field none key) (f ∷ bs) n (b ++ rest) (blank_stops rest bb sp)
        (bad_for (FitObject (suc (length bs)) n (with none key v)) (Fit (suc (length bs)) n v) rest (b ++ rest) bad (λ fit. (fit.0, let h = fit.1 in omega arith)) (behind_le b rest))
        (λ j m em le ov. blanks N P (after (fields (with none key v)) (f ∷ bs) m) rest (stay_after (fields (with none key v)) (f ∷ bs) m) bb (λ j. k j m (omega arith) le ov) j))) i)
    entries_run (Entries.further {ms = ms} {k = key} {v = v} {w = w} {n = m} {a = a} {s = s} {b = b} en na ba val bb) f bs n rest sp bad k i =
        subst (Goes N P (first_key f bs n) i) (join6 w (44 ∷ []) m a s b rest)
        (entries_run en f bs n (44 ∷ (m ++ (a ++ (s ++ (b ++ rest))))) refl
        (bad_for (FitObject (suc (length bs)) n (with ms key v)) (FitObject (suc (length bs)) n ms) rest (44 ∷ (m ++ (a ++ (s ++ (b ++ rest))))) bad (λ fit. ((or_parts (over_members (suc (length bs)) ms) (over (suc (length bs)) v) fit.0).0, let h = fit.1 in omega arith)) (omega (arith, behind_le b rest, behind_le s (b ++ rest), behind_le a (s ++ (b ++ rest)), behind_le m (a ++ (s ++ (b ++ rest))))))
        (λ j q eq le ov. go N P (after (fields ms) (f ∷ bs) q) (next_key ms f bs q) j 44 (m ++ (a ++ (s ++ (b ++ rest)))) refl
        (name_run (next_key ms f bs q) ms f bs q (a ++ (s ++ (b ++ rest))) (stay_next_key ms f bs q) (λ i. refl) na
        (blanks N P (want (field ms key) (f ∷ bs) q) (s ++ (b ++ rest)) (stay_want (field ms key) (f ∷ bs) q) ba
        (value-run val (field ms key) (f ∷ bs) q (b ++ rest) (blank_stops rest bb sp)
        (bad_for (FitObject (suc (length bs)) n (with ms key v)) (Fit (suc (length bs)) q v) rest (b ++ rest) bad (λ fit. ((or_parts (over_members (suc (length bs)) ms) (over (suc (length bs)) v) fit.0).1, let h = fit.1 in omega arith)) (behind_le b rest))
        (λ j p ep lp op. blanks N P (after (fields (with ms key v)) (f ∷ bs) p) rest (stay_after (fields (with ms key v)) (f ∷ bs) p) bb (λ j. k j p (omega arith) lp (or_from (over_members (suc (length bs)) ms) (over (suc (length bs)) v) ov op)) j))) (j + 1))) i)

  pub text_run : {v : Tree} {s : List ℕ} → Text v s → length s ≡ N → Bad (Fit 0 0 v) [] → (over 0 v ≡ false → size v ≤ 4096 → P (Ok v)) → P (run start 0 s)
  text_run (Text.whole {v = v} {a = a} {s = s} {b = b} ba val bb) long bad ok =
      let all : a ++ (s ++ (b ++ [])) ≡ a ++ s ++ b = simp (append_assoc, append-nil) in
      subst (Goes N P start 0) all
      (blanks N P start (s ++ (b ++ [])) (stay_want bare [] 0) ba
      (value-run val bare [] 0 (b ++ []) (blank_stops [] bb tt) (bad_for (Fit 0 0 v) (Fit 0 0 v) [] (b ++ []) bad (λ fit. fit) (omega arith))
      (λ j m em le ov. blanks N P (after (sole v) [] m) [] (stay_after (sole v) [] m) bb (λ _ _. ok ov (omega arith)) j)) 0)
      (omega arith)
