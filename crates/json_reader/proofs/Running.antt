-- What is built of a text, and the value that the machine reads.
use Rattle.std.proofs.Common.{◌≡◌, ℕ, suc, ◌+◌, ◌<◌, ◌≤◌, Bool, true, false, cond, ltb, leb, List, [], ◌∷◌, ◌++◌, map, length, get_or, pos, neg_ℤ, Ok, Err, Option, Result, sym, refl, ap, ◌∙◌, subst, arith}
use Rattle.json_values.specs.declared.parts.Source.{Source}
use Rattle.json_values.specs.declared.table.Cell.TheVariants as cell
use Rattle.json_values.specs.declared.table.Entry.{Entry}
use Rattle.json_values.specs.Meaning.{Row, no_row, meaning, row_of, rows_of}
use Rattle.json_values.specs.Value as value
use Rattle.json_scanner.proofs.Roomy.{moved-roomy, Roomy}
use Rattle.json_scanner.specs.Grammar.{Tree}
use Rattle.json_scanner.specs.Grammar as written
use Rattle.json_scanner.specs.Bytes.{Moved, readied, settled, settled_figures, counted_in, still, figure, moved, then}
use Rattle.json_scanner.specs.Machine.{Control, Frame, bare, sole, items, fields, field, kinds, wrapped, State, control, performed, prepared, carried, stepped, step, only, ended, finished, run, surroundings, arranged, arrived, counted, innermost, settled_end, finish, turned}
use Rattle.json_scanner.specs.declared.modes.Container.{Container}
use Rattle.json_scanner.specs.declared.modes.Fault.{Fault}
use Rattle.json_scanner.specs.declared.modes.Figures.{Figures}
use Rattle.json_scanner.specs.declared.modes.Figures.TheVariants as figures
use Rattle.json_scanner.specs.declared.modes.Mode.{Mode}
use Rattle.json_scanner.specs.declared.modes.Mode.TheVariants as mode
use Rattle.json_scanner.specs.declared.modes.Numeral.{Numeral}
use Rattle.json_scanner.specs.declared.modes.Ready.{Ready as Readied}
use Rattle.json_reader.proofs.Cores.{Over, Means, core_length}
use Rattle.json_reader.proofs.Frames.{all_rows, Ready, Done, Fit}
use Rattle.json_reader.proofs.Holding.{Holds, put_holds, perform_holds}
use Rattle.json_reader.proofs.Turning.{Good, moved_good}
use Rattle.json_reader.specs.Building.{Built, acted, built, building, ended_with, number_cell}
use Rattle.json_reader.specs.Values.{value_of}
use Rattle.std.proofs.lemmas.Bool.{cond_both, leb-false}
use Rattle.json_scanner.proofs.Bridge.{kinds_number, tracks, made as held_as}
use Rattle.std.proofs.lemmas.List.{append-nil}

-- ---- the end of a number

number_means : (source : Source) (w : List ℕ) (t : List Entry) (g : Bool) (n : ℕ) → Means source w t (number_cell g n) (written.number g n)
unfolding value_of
number_means source w t true n texts ov later = either (leb n 9223372036854775808)
  where
    either : (c : Bool) → meaning texts (rows_of texts (t ++ later)) (cond c (cell.Int (neg_ℤ (pos n))) (cell.Uint n)) ≡ cond c (value.int (neg_ℤ (pos n))) (value.uint n)
    either true = refl
    either false = refl
number_means source w t false n texts ov later = either (ltb n 9223372036854775808)
  where
    either : (c : Bool) → meaning texts (rows_of texts (t ++ later)) (cond c (cell.Int (pos n)) (cell.Uint n)) ≡ cond c (value.int (pos n)) (value.uint n)
    either true = refl
    either false = refl

module _ (source : Source) (a b i : ℕ) (m : Built) (st : State) (h : Holds source a b i m st) where
  abbrev Prepared : Result Readied Fault → Type 0
  Prepared (Ok r) = Holds source a b i (ended_with m r.number) (prepared r st)
  Prepared (Err f) = Unit {0}

  whole-holds : (g : Bool) (n from : ℕ) → Ready st.top st.below → Prepared (counted_in g n from st.values)
  whole-holds g n from ready = cond_both (leb 4096 st.values) _ _ Prepared (λ _. tt)
      (λ e.
      put_holds h (number_cell g n) from (written.number g n) m.notes.begun st.chars (st.values + 1) i mode.After ready (number_means source m.text m.table g n) h.begun h.chars (omega (arith, h.counts)) (omega (arith, leb-false 4096 st.values e)) (omega arith) refl)

  same_mode : (n : Mode) → st.mode ≡ n → Prepared (Ok (still n st.values))
  same_mode n e = subst (λ (z : Mode). Holds source a b i m (record { mode = z; values = st.values; chars = st.chars; top = st.top; below = st.below })) e h

  figures_holds : (g : Figures) (from : ℕ) → st.mode ≡ mode.Number g from → Ready st.top st.below → Prepared (settled_figures g from st.values)
  figures_holds figures.Minus from e r = same_mode (mode.Number figures.Minus from) e
  figures_holds (figures.Whole g n) from e r = whole-holds g n from r
  figures_holds figures.Point from e r = same_mode (mode.Number figures.Point from) e
  figures_holds figures.Power from e r = same_mode (mode.Number figures.Power from) e
  figures_holds figures.Sign from e r = same_mode (mode.Number figures.Sign from) e

  settled_at : (n : Mode) → st.mode ≡ n → Fit n st.top st.below → Prepared (settled n st.values)
  settled_at mode.Want e f = same_mode mode.Want e
  settled_at mode.First e f = same_mode mode.First e
  settled_at mode.FirstKey e f = same_mode mode.FirstKey e
  settled_at mode.NextKey e f = same_mode mode.NextKey e
  settled_at mode.Colon e f = same_mode mode.Colon e
  settled_at mode.After e f = same_mode mode.After e
  settled_at (mode.Word w) e f = same_mode (mode.Word w) e
  settled_at (mode.Number g from) e f = figures_holds g from e f
  settled_at (mode.Text r x) e f = same_mode (mode.Text r x) e

  pub settled-holds : Prepared (settled st.mode st.values)
  settled-holds = settled_at st.mode refl h.fit

  pub readied-holds : (y : ℕ) → Prepared (readied y st.mode st.values)
  readied-holds y = cond_both (figure y) _ _ Prepared (λ _. same_mode st.mode refl) (λ _. settled-holds)

-- ---- a whole text

-- one value waits, which means v
abbrev pub Finished : Source → ℕ → Built → Tree → Type 0
Finished source b m v =
    (e : Entry) × (m.notes.pending ≡ e ∷ []) × ((texts : Source → List ℕ) → Over source m.text texts → meaning texts (rows_of texts m.table) e.cell ≡ value_of v) × (length m.table + 1 ≤ b + 4096)

abbrev pub Agrees : Source → ℕ → Result Built Fault → Result Tree Fault → Type 0
Agrees source b (Ok m) (Ok v) = Finished source b m v
Agrees source b (Ok m) (Err g) = ⊥
Agrees source b (Err f) (Ok v) = ⊥
Agrees source b (Err f) (Err g) = f ≡ g

module _ (source : Source) (a b i : ℕ) (m : Built) (st : State) (v : Tree) (p : st.top ≡ sole v) (q : st.below ≡ []) (h : Holds source a b i m st) where
  sole_rows : (texts : Source → List ℕ) → Over source m.text texts → (later : List Entry) → map (row_of texts (rows_of texts (m.table ++ later))) m.notes.pending ≡ record { key = []; value = value_of v } ∷ []
  sole_rows texts ov later = h.core.rows texts ov later ∙ (λ j. all_rows (p j) (q j))

  sole_length : length m.notes.pending ≡ 1
  sole_length = core_length h.core ∙ ap length {y = record { key = []; value = value_of v } ∷ []} (λ j. all_rows (p j) (q j))

  sole_finished : (ps : List Entry) → m.notes.pending ≡ ps → Finished source b m v
  sole_finished [] e = let n : length m.notes.pending ≡ 0 = ap length e in absurd (omega (arith, sole_length))
  sole_finished (x ∷ (y ∷ es)) e = let n : length m.notes.pending ≡ suc (suc (length es)) = ap length e in absurd (omega (arith, sole_length))
  sole_finished (x ∷ []) e = (
    x,
    e,
    (λ texts ov.
        let only_row : map (row_of texts (rows_of texts (m.table ++ []))) (x ∷ []) ≡ record { key = []; value = value_of v } ∷ [] = ap (map (row_of texts (rows_of texts (m.table ++ [])))) (sym e) ∙ sole_rows texts ov [] in
        ap (λ (z : List Entry). meaning texts (rows_of texts z) x.cell) (sym (append-nil m.table))
        ∙ ap (λ (z : List Row). (get_or z 0 no_row).value) only_row),
    omega (arith, sole_length, h.counts, h.few),
  )

done_finished : (source : Source) (a b i : ℕ) (m : Built) (st : State) (f : Frame) → st.top ≡ f → st.below ≡ [] → Holds source a b i m st → Done f [] → Finished source b m (wrapped f)
done_finished source a b i m st bare p q h d = absurd d
done_finished source a b i m st (sole v) p q h d = sole_finished source a b i m st v p q h m.notes.pending refl
done_finished source a b i m st (items ts) p q h d = absurd d
done_finished source a b i m st (fields ms) p q h d = absurd d
done_finished source a b i m st (field ms k) p q h d = absurd d

after_agrees : (source : Source) (a b i : ℕ) (m : Built) (k : Option Numeral) (st : State) (gs : List Frame) → st.below ≡ gs → (f : Frame) → st.top ≡ f → Holds source a b i (ended_with m k) st → Done f gs → (vs : ℕ) (cs : List Container) → cs ≡ kinds f gs
    → Agrees source b (then (settled_end i mode.After (innermost cs) vs k) (λ k. Ok (ended_with m k))) (only i f gs)
after_agrees source a b i m k st [] q f p h d vs cs e =
    subst (λ (z : List Container). Agrees source b (then (settled_end i mode.After (innermost z) vs k) (λ k. Ok (ended_with m k))) (only i f [])) (sym e) (done_finished source a b i (ended_with m k) st f p q h d)
after_agrees source a b i m k st (g ∷ gs) q f p h d vs cs e =
    subst (λ (z : List Container). Agrees source b (then (settled_end i mode.After (innermost z) vs k) (λ k. Ok (ended_with m k))) (only i f (g ∷ gs))) (sym e) refl

end_agrees : (source : Source) (a b i : ℕ) (m : Built) (k : Option Numeral) (n : Mode) (st : State) → st.mode ≡ n → Holds source a b i (ended_with m k) st → (cs : List Container) → cs ≡ kinds st.top st.below
    → Agrees source b (then (settled_end i n (innermost cs) st.values k) (λ k. Ok (ended_with m k))) (ended i n st)
end_agrees source a b i m k mode.Want st e h cs c = refl
end_agrees source a b i m k mode.First st e h cs c = refl
end_agrees source a b i m k mode.FirstKey st e h cs c = refl
end_agrees source a b i m k mode.NextKey st e h cs c = refl
end_agrees source a b i m k mode.Colon st e h cs c = refl
end_agrees source a b i m k mode.After st e h cs c =
    after_agrees source a b i m k st st.below refl st.top refl h (subst (λ (z : Mode). Fit z st.top st.below) e h.fit) st.values cs c
end_agrees source a b i m k (mode.Word w) st e h cs c = refl
end_agrees source a b i m k (mode.Number f from) st e h cs c = refl
end_agrees source a b i m k (mode.Text r x) st e h cs c = refl

module _ (source : Source) (a b : ℕ) (tall : b + 4096 ≤ 8192) where
  finish_agrees : (i : ℕ) (m : Built) (st : State) → Holds source a b i m st → Agrees source b (then (finish i (control st)) (λ k. Ok (ended_with m k))) (finished i st)
  finish_agrees i m st h = by (settled st.mode st.values) (settled-holds source a b i m st h)
    where
      by : (x : Result Readied Fault) → Prepared source a b i m st h x
          → Agrees source b (then (then x (λ r. settled_end i r.mode (innermost (kinds st.top st.below)) r.values r.number)) (λ k. Ok (ended_with m k))) (then x (λ r. ended i r.mode (prepared r st)))
      by (Ok r) p = end_agrees source a b i m r.number r.mode (prepared r st) refl p (kinds st.top st.below) (kinds_number r.number st.top st.below)
      by (Err f) p = refl

  module _ (i : ℕ) (s : List ℕ) (next : (m : Built) (st : State) → Holds source a b (i + 1) m st → Agrees source b (building source (control st) (i + 1) s m) (run st (i + 1) s)) (wide : a + i < 65535) where
    -- the move of a state, with what the scanner has of it
    move_agrees : (m : Built) (k : Option Numeral) (st : State) (cs : List Container) → cs ≡ kinds st.top st.below → Holds source a b i (ended_with m k) st → (x : Moved) → Good st.mode st.top st.below x → Roomy (surroundings i (kinds st.top st.below) st.values) x
        → Agrees source b (then (then x (λ y. Ok (arrived cs (record { mode = st.mode; values = st.values; number = k }) y))) (λ y. building source y.0 (i + 1) s (built source i y.1 m))) (then (carried x st) (λ z. run z (i + 1) s))
    move_agrees m k st cs e h (Ok y) g r =
        let c : held_as y.mode (counted y.act st.values) (arranged y.act cs) ≡ control (performed y.act y.mode st) = ap (λ (z : List Container). held_as y.mode (counted y.act st.values) (arranged y.act z)) e ∙ tracks y.act y.mode st in
        subst (λ (z : Control). Agrees source b (building source z (i + 1) s (built source i (record { number = k; act = y.act }) m)) (run (performed y.act y.mode st) (i + 1) s)) (sym c)
        (next (acted source i y.act (ended_with m k)) (performed y.act y.mode st) (perform_holds source a b i (ended_with m k) wide tall st y.act y.mode h g r.0 r.1))
    move_agrees m k st cs e h (Err f) g r = refl

    step_agrees : (m : Built) (st : State) (y : ℕ) → Holds source a b i m st → Agrees source b (then (turned i (control st) y) (λ x. building source x.0 (i + 1) s (built source i x.1 m))) (then (step i st y) (λ z. run z (i + 1) s))
    step_agrees m st y h = by (readied y st.mode st.values) (readied-holds source a b i m st h y)
      where
        by : (x : Result Readied Fault) → Prepared source a b i m st h x
            → Agrees source b (then (then x (λ r. then (moved r.mode (surroundings i (kinds st.top st.below) r.values) y) (λ z. Ok (arrived (kinds st.top st.below) r z)))) (λ z. building source z.0 (i + 1) s (built source i z.1 m)))
            (then (then x (λ r. stepped i (prepared r st) y)) (λ z. run z (i + 1) s))
        by (Ok r) p =
            let st1 = prepared r st in
            let e = sym (kinds_number r.number st.top st.below) in
            subst (λ (cs : List Container). Agrees source b (then (then (moved r.mode (surroundings i cs r.values) y) (λ z. Ok (arrived (kinds st.top st.below) r z))) (λ z. building source z.0 (i + 1) s (built source i z.1 m)))
            (then (stepped i st1 y) (λ z. run z (i + 1) s))) e
            (move_agrees m r.number st1 (kinds st.top st.below) (sym e) p (moved r.mode (surroundings i (kinds st1.top st1.below) r.values) y)
            (moved_good r.mode st1.top st1.below r.values i y p.fit) (moved-roomy (surroundings i (kinds st1.top st1.below) r.values) r.mode y))
        by (Err f) p = refl

  pub run_agrees : (s : List ℕ) (i : ℕ) (m : Built) (st : State) → a + i + length s ≤ 65535 → Holds source a b i m st → Agrees source b (building source (control st) i s m) (run st i s)
  unfolding building
  run_agrees [] i m st le h = finish_agrees i m st h
  run_agrees (y ∷ s) i m st le h = step_agrees i s (λ m st h. run_agrees s (i + 1) m st (omega arith) h) (omega arith) m st y h
