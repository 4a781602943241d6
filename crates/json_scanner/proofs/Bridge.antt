-- The scanner goes as the machine that builds: their answers are the same.
use Rattle.std.proofs.Common.{◌≡◌, ℕ, ◌+◌, leb, List, [], ◌∷◌, Some, None, Ok, Err, Option, Result, sym, refl, ap, ◌∙◌, subst}
use Rattle.std.proofs.lemmas.Bool.{cond_both}
use Rattle.json_scanner.specs.declared.modes.Mode.{Mode}
use Rattle.json_scanner.specs.declared.modes.Mode.TheVariants as mode
use Rattle.json_scanner.specs.declared.modes.Act.{Act}
use Rattle.json_scanner.specs.declared.modes.Act.TheVariants as act
use Rattle.json_scanner.specs.declared.modes.Fault.{Fault}
use Rattle.json_scanner.specs.declared.modes.Numeral.{Numeral}
use Rattle.json_scanner.specs.declared.modes.Ready.{Ready}
use Rattle.json_scanner.specs.declared.modes.Step.{Step}
use Rattle.json_scanner.specs.declared.modes.Container.{Container}
use Rattle.json_scanner.specs.declared.modes.Container.TheVariants as container
use Rattle.json_scanner.specs.declared.modes.Figures.{Figures}
use Rattle.json_scanner.specs.declared.modes.Figures.TheVariants as figures
use Rattle.json_scanner.specs.Grammar.{Tree}
use Rattle.json_scanner.specs.Bytes.{Moved, moved, readied, settled, settled_figures, figure, then}
use Rattle.json_scanner.specs.Machine.{Control, State, Frame, bare, sole, items, fields, field, kind, kinds, put, naming, wrapped, surroundings, innermost, arranged, counted, arrived, turned, settled_end, finish, scan, forgotten, control, closed, performed, with_number, with_ended, prepared, carried, stepped, step, ended, finished, run}

pub kind-put : (f : Frame) (v : Tree) → kind (put f v) ≡ kind f
kind-put bare v = refl
kind-put (sole u) v = refl
kind-put (items ts) v = refl
kind-put (fields ms) v = refl
kind-put (field ms k) v = refl

pub kind-naming : (f : Frame) (k : List ℕ) → kind (naming f k) ≡ kind f
kind-naming bare k = refl
kind-naming (sole u) k = refl
kind-naming (items ts) k = refl
kind-naming (fields ms) k = refl
kind-naming (field ms j) k = refl

pub kinds-put : (f : Frame) (v : Tree) (bs : List Frame) → kinds f bs ≡ kinds (put f v) bs
kinds-put f v [] = refl
kinds-put f v (g ∷ gs) = ap (λ k. k ∷ kinds g gs) (sym (kind-put f v))

pub kinds-naming : (f : Frame) (k : List ℕ) (bs : List Frame) → kinds f bs ≡ kinds (naming f k) bs
kinds-naming f k [] = refl
kinds-naming f k (g ∷ gs) = ap (λ c. c ∷ kinds g gs) (sym (kind-naming f k))

pub kinds_number : (o : Option Numeral) (f : Frame) (bs : List Frame) → kinds f bs ≡ kinds (with_number o f) bs
kinds_number None f bs = refl
kinds_number (Some k) f bs = kinds-put f (Tree.number k.minus k.size) bs

abbrev pub made : Mode → ℕ → List Container → Control
made m n cs = record { mode = m; around = cs; values = n }

tracks_close : (m : Mode) (n : ℕ) (cs : List ℕ) (f : Frame) (bs : List Frame) → made m n (arranged act.Close (kinds f bs)) ≡ control (closed m n cs f bs)
tracks_close m n cs f [] = refl
tracks_close m n cs f (g ∷ gs) = ap (made m n) (kinds-put g (wrapped f) gs)

-- the containers and the count of a state after an act
pub tracks : (a : Act) (m : Mode) (st : State) → made m (counted a st.values) (arranged a (kinds st.top st.below)) ≡ control (performed a m st)
tracks act.Stay m st = refl
tracks act.Begin m st = refl
tracks (act.Open container.List) m st = refl
tracks (act.Open container.Object) m st = refl
tracks act.Close m st = tracks_close m st.values st.chars st.top st.below
tracks (act.Add p) m st = refl
tracks act.Key m st = ap (made m st.values) (kinds-naming st.top st.chars st.below)
tracks act.Text m st = ap (made m st.values) (kinds-put st.top (Tree.text st.chars) st.below)
tracks act.Null m st = ap (made m st.values) (kinds-put st.top Tree.null st.below)
tracks (act.Bool b) m st = ap (made m st.values) (kinds-put st.top (Tree.bool b) st.below)

-- the scanner's answer beside the state that is built
abbrev pub Tracks : Result (Control × Step) Fault → Result State Fault → Type 0
Tracks (Ok x) (Ok st) = x.0 ≡ control st
Tracks (Ok x) (Err f) = ⊥
Tracks (Err f) (Ok st) = ⊥
Tracks (Err f) (Err g) = f ≡ g

moved_tracks : (i b : ℕ) (r : Ready) (cs : List Container) (st : State) (mv : Moved) → cs ≡ kinds st.top st.below → r.values ≡ st.values → Tracks (then mv (λ m. Ok (arrived cs r m))) (carried mv st)
moved_tracks i b r cs st (Ok m) e h = ap (λ c. made m.mode (counted m.act r.values) (arranged m.act c)) e ∙ (ap (λ n. made m.mode (counted m.act n) (arranged m.act (kinds st.top st.below))) h ∙ tracks m.act m.mode st)
moved_tracks i b r cs st (Err f) e h = refl

ready_tracks : (i b : ℕ) (st : State) (q : Result Ready Fault)
    → Tracks (then q (λ r. then (moved r.mode (surroundings i (kinds st.top st.below) r.values) b) (λ m. Ok (arrived (kinds st.top st.below) r m)))) (then q (λ r. stepped i (prepared r st) b))
ready_tracks i b st (Ok r) =
    let e = kinds_number r.number st.top st.below in
    subst (λ c. Tracks (then (moved r.mode (surroundings i c r.values) b) (λ m. Ok (arrived (kinds st.top st.below) r m))) (stepped i (prepared r st) b)) (sym e)
    (moved_tracks i b r (kinds st.top st.below) (prepared r st) (moved r.mode (surroundings i (kinds (with_number r.number st.top) st.below) r.values) b) e refl)
ready_tracks i b st (Err f) = refl

-- a step of the scanner is one of the machine that builds
pub step_tracks : (i b : ℕ) (st : State) → Tracks (turned i (control st) b) (step i st b)
step_tracks i b st = ready_tracks i b st (readied b st.mode st.values)

end_tracks : (i : ℕ) (m : Mode) (f g : Frame) (bs : List Frame) (n : ℕ) (cs : List ℕ) (k : Option Numeral)
    → forgotten (settled_end i m (innermost (kinds f bs)) n k) ≡ forgotten (ended i m (record { mode = m; values = n; chars = cs; top = g; below = bs }))
end_tracks i mode.Want f g bs n cs k = refl
end_tracks i mode.First f g bs n cs k = refl
end_tracks i mode.FirstKey f g bs n cs k = refl
end_tracks i mode.NextKey f g bs n cs k = refl
end_tracks i mode.Colon f g bs n cs k = refl
end_tracks i mode.After f g [] n cs k = refl
end_tracks i mode.After f g (b ∷ bs) n cs k = refl
end_tracks i (mode.Word w) f g bs n cs k = refl
end_tracks i (mode.Number x from) f g bs n cs k = refl
end_tracks i (mode.Text r x) f g bs n cs k = refl

finish_tracks : (i : ℕ) (st : State) (q : Result Ready Fault)
    → forgotten (then q (λ r. settled_end i r.mode (innermost (kinds st.top st.below)) r.values r.number)) ≡ forgotten (then q (λ r. ended i r.mode (prepared r st)))
finish_tracks i st (Ok r) = end_tracks i r.mode st.top (with_number r.number st.top) st.below r.values st.chars r.number
finish_tracks i st (Err f) = refl

next_tracks : (i : ℕ) (s : List ℕ) (x : Result (Control × Step) Fault) (y : Result State Fault) → ((c : Control) (st : State) → c ≡ control st → forgotten (scan c (i + 1) s) ≡ forgotten (run st (i + 1) s)) → Tracks x y
    → forgotten (then x (λ z. scan z.0 (i + 1) s)) ≡ forgotten (then y (λ z. run z (i + 1) s))
next_tracks i s (Ok x) (Ok st) ih h = ih x.0 st h
next_tracks i s (Ok x) (Err f) ih h = absurd h
next_tracks i s (Err f) (Ok st) ih h = absurd h
next_tracks i s (Err f) (Err g) ih h = ap Err h

pub scan-run : (s : List ℕ) (i : ℕ) (st : State) → forgotten (scan (control st) i s) ≡ forgotten (run st i s)
scan-run [] i st = finish_tracks i st (settled st.mode st.values)
scan-run (b ∷ s) i st =
    next_tracks i s (turned i (control st) b) (step i st b) (λ c q e. subst (λ z. forgotten (scan z (i + 1) s) ≡ forgotten (run q (i + 1) s)) (sym e) (scan-run s (i + 1) q)) (step_tracks i b st)

-- ---- a step, by its act and the number that ended

abbrev Prepared : State → Result Ready Fault → Type 0
Prepared st (Ok r) = prepared r st ≡ with_ended r.number st
Prepared st (Err f) = Unit {0}

abbrev at_mode : Mode → ℕ → List ℕ → Frame → List Frame → State
at_mode m n cs f bs = record { mode = m; values = n; chars = cs; top = f; below = bs }

figures_prepared : (g : Figures) (from n : ℕ) (cs : List ℕ) (f : Frame) (bs : List Frame) → Prepared (at_mode (mode.Number g from) n cs f bs) (settled_figures g from n)
figures_prepared figures.Minus from n cs f bs = refl
figures_prepared (figures.Whole g k) from n cs f bs = cond_both (leb 4096 n) _ _ (Prepared (at_mode (mode.Number (figures.Whole g k) from) n cs f bs)) (λ _. tt) (λ _. refl)
figures_prepared figures.Point from n cs f bs = refl
figures_prepared figures.Power from n cs f bs = refl
figures_prepared figures.Sign from n cs f bs = refl

settled-prepared : (m : Mode) (n : ℕ) (cs : List ℕ) (f : Frame) (bs : List Frame) → Prepared (at_mode m n cs f bs) (settled m n)
settled-prepared mode.Want n cs f bs = refl
settled-prepared mode.First n cs f bs = refl
settled-prepared mode.FirstKey n cs f bs = refl
settled-prepared mode.NextKey n cs f bs = refl
settled-prepared mode.Colon n cs f bs = refl
settled-prepared mode.After n cs f bs = refl
settled-prepared (mode.Word w) n cs f bs = refl
settled-prepared (mode.Number g from) n cs f bs = figures_prepared g from n cs f bs
settled-prepared (mode.Text r x) n cs f bs = refl

readied-prepared : (b : ℕ) (st : State) → Prepared st (readied b st.mode st.values)
readied-prepared b st = cond_both (figure b) _ _ (Prepared st) (λ _. refl) (λ _. settled-prepared st.mode st.values st.chars st.top st.below)

moved-built : (cs : List Container) (r : Ready) (st : State) (c : Control) (x : Step) (mv : Moved) → prepared r st ≡ with_ended r.number st → then mv (λ m. Ok (arrived cs r m)) ≡ Ok (c, x)
    → carried mv (prepared r st) ≡ Ok (performed x.act c.mode (with_ended x.number st))
moved-built cs r st c x (Ok m) p e =
    let same : arrived cs r m ≡ (c, x) = cc in
    let a : m.act ≡ x.act = ap (λ (z : Control × Step). z.1.act) same in
    let k : m.mode ≡ c.mode = ap (λ (z : Control × Step). z.0.mode) same in
    let n : r.number ≡ x.number = ap (λ (z : Control × Step). z.1.number) same in
    ap Ok (ap (λ z. performed z m.mode (prepared r st)) a ∙ (ap (λ z. performed x.act z (prepared r st)) k ∙ ap (performed x.act c.mode) (p ∙ ap (λ z. with_ended z st) n)))
moved-built cs r st c x (Err f) p e = cc

ready_built : (i b : ℕ) (st : State) (c : Control) (x : Step) (q : Result Ready Fault) → Prepared st q
    → then q (λ r. then (moved r.mode (surroundings i (kinds st.top st.below) r.values) b) (λ m. Ok (arrived (kinds st.top st.below) r m))) ≡ Ok (c, x)
    → then q (λ r. stepped i (prepared r st) b) ≡ Ok (performed x.act c.mode (with_ended x.number st))
ready_built i b st c x (Ok r) p e =
    let k = kinds_number r.number st.top st.below in
    subst (λ cs. carried (moved r.mode (surroundings i cs r.values) b) (prepared r st) ≡ Ok (performed x.act c.mode (with_ended x.number st))) k
    (moved-built (kinds st.top st.below) r st c x (moved r.mode (surroundings i (kinds st.top st.below) r.values) b) p e)
ready_built i b st c x (Err f) p e = cc

-- what a step of the scanner builds
pub step-built : (i b : ℕ) (st : State) (c : Control) (x : Step) → turned i (control st) b ≡ Ok (c, x) → step i st b ≡ Ok (performed x.act c.mode (with_ended x.number st))
step-built i b st c x e = ready_built i b st c x (readied b st.mode st.values) (readied-prepared b st) e

end_built : (i : ℕ) (m : Mode) (f g : Frame) (bs : List Frame) (n : ℕ) (cs : List ℕ) (k l : Option Numeral) → settled_end i m (innermost (kinds f bs)) n k ≡ Ok l
    → (ended i m (at_mode m n cs g bs) ≡ Ok (wrapped g)) × (k ≡ l)
end_built i mode.Want f g bs n cs k l e = cc
end_built i mode.First f g bs n cs k l e = cc
end_built i mode.FirstKey f g bs n cs k l e = cc
end_built i mode.NextKey f g bs n cs k l e = cc
end_built i mode.Colon f g bs n cs k l e = cc
end_built i mode.After f g [] n cs k l e = (refl, cc)
end_built i mode.After f g (b ∷ bs) n cs k l e = cc
end_built i (mode.Word w) f g bs n cs k l e = cc
end_built i (mode.Number x from) f g bs n cs k l e = cc
end_built i (mode.Text r x) f g bs n cs k l e = cc

finished-built : (i : ℕ) (st : State) (k : Option Numeral) (q : Result Ready Fault) → then q (λ r. settled_end i r.mode (innermost (kinds st.top st.below)) r.values r.number) ≡ Ok k
    → then q (λ r. ended i r.mode (prepared r st)) ≡ Ok (wrapped (with_number k st.top))
finished-built i st k (Ok r) e =
    let h = end_built i r.mode st.top (with_number r.number st.top) st.below r.values st.chars r.number k e in
    h.0 ∙ ap (λ z. Ok (wrapped (with_number z st.top))) h.1
finished-built i st k (Err f) e = cc

-- what the end of the text builds
pub finish-built : (i : ℕ) (st : State) (k : Option Numeral) → finish i (control st) ≡ Ok k → finished i st ≡ Ok (wrapped (with_number k st.top))
finish-built i st k e = finished-built i st k (settled st.mode st.values) e
