-- The place of a fault of a malformed text, and what stands at each other fault.
use Rattle.std.proofs.Common.{◌≡◌, ℕ, ◌+◌, Bool, true, false, cond, eqb, leb, List, [], ◌∷◌, ◌++◌, length, take, Some, None, Ok, Err, Option, Result, sym, refl, ap, ◌∙◌, subst, append_assoc, append-nil, arith, length-append}
use Rattle.std.proofs.lemmas.List.{take_at}
use Rattle.std.specs.Char.{is_ascii_digit}
use Rattle.std.proofs.lemmas.Bool.{cond_both}
use Rattle.json_scanner.specs.declared.modes.Container.{Container}
use Rattle.json_scanner.specs.declared.modes.Container.TheVariants as container
use Rattle.json_scanner.specs.declared.modes.Role.{Role}
use Rattle.json_scanner.specs.declared.modes.Figures.{Figures}
use Rattle.json_scanner.specs.declared.modes.Figures.TheVariants as figures
use Rattle.json_scanner.specs.declared.modes.NumberError.{NumberError}
use Rattle.json_scanner.specs.declared.modes.NumberError.TheVariants as number_error
use Rattle.json_scanner.specs.declared.modes.Around.{Around}
use Rattle.json_scanner.specs.declared.modes.Mode.{Mode}
use Rattle.json_scanner.specs.declared.modes.Mode.TheVariants as mode
use Rattle.json_scanner.specs.declared.modes.Fault.{Fault}
use Rattle.json_scanner.specs.declared.modes.Fault.TheVariants as fault
use Rattle.json_scanner.specs.Grammar.{Tree, white, Text, Viable}
use Rattle.json_scanner.specs.Bytes.{Moved, Spelling, moved, begun, opening, beginning, keyed, followed, judged, broken_off, noted, spelled, closing, letter, figured, figure, settled, settled_figures, readied, then}
use Rattle.json_scanner.specs.Machine.{State, Frame, kinds, surroundings, carried, stepped, step, prepared, ended, only, finished, run, start}
use Rattle.json_scanner.specs.Faults.{Breaks}
use Rattle.json_scanner.proofs.Shape.{Shaped, Right, Good, right_more}
use Rattle.json_scanner.proofs.Sound.{Ends, step_good, finished_good, at_next, sound_from, start_shape, viable}
use Rattle.json_scanner.proofs.Complete.{Soft, text_run}

-- a malformed text is refused at the byte that is being read
abbrev At : ℕ → Fault → Type 0
At i (fault.Malformed p) = p ≡ i
At i (fault.Nested q) = Unit {0}
At i (fault.Number q) = Unit {0}
At i (fault.Crowded q) = Unit {0}

abbrev Blamed : {A : Type 0} → ℕ → Result A Fault → Type 0
Blamed i (Ok x) = Unit {0}
Blamed i (Err f) = At i f

-- by cases on each test
either : {A : Type 0} (i : ℕ) (t : Bool) (x y : Result A Fault) → Blamed i x → Blamed i y → Blamed i (cond t x y)
either i true x y f h = f
either i false x y f h = h

opening_blamed : (a : Around) (m : Mode) (c : Container) → Blamed a.place (opening a m c)
opening_blamed a m c = either a.place (leb 200 a.depth) _ _ tt (either a.place (leb 4096 a.values) _ _ tt tt)

beginning_blamed : (a : Around) (m : Mode) → Blamed a.place (beginning a m)
beginning_blamed a m = either a.place (leb 4096 a.values) _ _ tt tt

begun_blamed : (m : Mode) (a : Around) (b : ℕ) → Blamed a.place (begun m a b)
begun_blamed m a b =
    let i : ℕ = a.place in
    either i (white b) _ _ tt (either i (eqb b 91) _ _ (opening_blamed a _ _) (either i (eqb b 123) _ _ (opening_blamed a _ _) (either i (eqb b 45) _ _ tt (either i (is_ascii_digit b) _ _ tt
    (either i (eqb b 34) _ _ (beginning_blamed a _) (either i (eqb b 110) _ _ (beginning_blamed a _) (either i (eqb b 116) _ _ (beginning_blamed a _) (either i (eqb b 102) _ _ (beginning_blamed a _) refl))))))))

keyed_blamed : (m : Mode) (i b : ℕ) → Blamed i (keyed m i b)
keyed_blamed m i b = either i (white b) _ _ tt (either i (eqb b 34) _ _ tt refl)

followed_blamed : (o : Option Container) (i b : ℕ) → Blamed i (followed o i b)
followed_blamed None i b = refl
followed_blamed (Some container.List) i b = either i (eqb b 44) _ _ tt (either i (eqb b 93) _ _ tt refl)
followed_blamed (Some container.Object) i b = either i (eqb b 44) _ _ tt (either i (eqb b 125) _ _ tt refl)

broken_at : (n from i : ℕ) → At i (broken_off n from i)
broken_at n from i = cond_both (leb 4096 n) _ _ (At i) (λ _. tt) (λ _. refl)

judged_blamed : (v : Result Figures NumberError) (n from i : ℕ) → Blamed i (judged v n from i)
judged_blamed (Ok f) n from i = tt
judged_blamed (Err number_error.Unfit) n from i = tt
judged_blamed (Err number_error.Broken) n from i = broken_at n from i

noted_blamed : (r : Role) (s : Spelling) (i : ℕ) → Blamed i (noted r s i)
noted_blamed r (Some x) i = tt
noted_blamed r None i = refl

moved_blamed : (m : Mode) (a : Around) (b : ℕ) → Blamed a.place (moved m a b)
moved_blamed mode.Want a b = begun_blamed mode.Want a b
moved_blamed mode.First a b = either a.place (eqb b 93) _ _ tt (begun_blamed mode.First a b)
moved_blamed mode.FirstKey a b = either a.place (eqb b 125) _ _ tt (keyed_blamed mode.FirstKey a.place b)
moved_blamed mode.NextKey a b = keyed_blamed mode.NextKey a.place b
moved_blamed mode.Colon a b = either a.place (white b) _ _ tt (either a.place (eqb b 58) _ _ tt refl)
moved_blamed mode.After a b = either a.place (white b) _ _ tt (followed_blamed a.inner a.place b)
moved_blamed (mode.Word w) a b = either a.place (eqb b (letter w)) _ _ tt refl
moved_blamed (mode.Number f from) a b = judged_blamed (figured f b) a.values from a.place
moved_blamed (mode.Text r x) a b = either a.place (closing x b) _ _ tt (noted_blamed r (spelled x b) a.place)

carried_blamed : (i : ℕ) (mv : Moved) (st : State) → Blamed i mv → Blamed i (carried mv st)
carried_blamed i (Ok m) st h = tt
carried_blamed i (Err f) st h = h

figures_blamed : (i : ℕ) (g : Figures) (from n : ℕ) → Blamed i (settled_figures g from n)
figures_blamed i figures.Minus from n = tt
figures_blamed i (figures.Whole g k) from n = either i (leb 4096 n) _ _ tt tt
figures_blamed i figures.Point from n = tt
figures_blamed i figures.Power from n = tt
figures_blamed i figures.Sign from n = tt

settled_blamed : (i : ℕ) (m : Mode) (n : ℕ) → Blamed i (settled m n)
settled_blamed i mode.Want n = tt
settled_blamed i mode.First n = tt
settled_blamed i mode.FirstKey n = tt
settled_blamed i mode.NextKey n = tt
settled_blamed i mode.Colon n = tt
settled_blamed i mode.After n = tt
settled_blamed i (mode.Word w) n = tt
settled_blamed i (mode.Number f from) n = figures_blamed i f from n
settled_blamed i (mode.Text r x) n = tt

then_blamed : {X Y : Type 0} (i : ℕ) (r : Result X Fault) (k : X → Result Y Fault) → Blamed i r → ((x : X) → Blamed i (k x)) → Blamed i (then r k)
then_blamed i (Ok x) k h g = g x
then_blamed i (Err f) k h g = h

step_blamed : (i : ℕ) (st : State) (b : ℕ) → Blamed i (step i st b)
step_blamed i st b =
    then_blamed i (readied b st.mode st.values) (λ r. stepped i (prepared r st) b) (either i (figure b) _ _ tt (settled_blamed i st.mode st.values))
    (λ r. let q : State = prepared r st in carried_blamed i (moved q.mode (surroundings i (kinds q.top q.below) q.values) b) q (moved_blamed q.mode (surroundings i (kinds q.top q.below) q.values) b))

only_blamed : (i : ℕ) (f : Frame) (bs : List Frame) → Blamed i (only i f bs)
only_blamed i f [] = tt
only_blamed i f (g ∷ gs) = refl

ended_blamed : (i : ℕ) (m : Mode) (st : State) → Blamed i (ended i m st)
ended_blamed i mode.Want st = refl
ended_blamed i mode.First st = refl
ended_blamed i mode.FirstKey st = refl
ended_blamed i mode.NextKey st = refl
ended_blamed i mode.Colon st = refl
ended_blamed i mode.After st = only_blamed i st.top st.below
ended_blamed i (mode.Word w) st = refl
ended_blamed i (mode.Number f from) st = broken_at st.values from i
ended_blamed i (mode.Text r x) st = refl

finished_blamed : (i : ℕ) (st : State) → Blamed i (finished i st)
finished_blamed i st = then_blamed i (settled st.mode st.values) (λ r. ended i r.mode (prepared r st)) (settled_blamed i st.mode st.values) (λ r. ended_blamed i r.mode (prepared r st))

-- s breaks behind w, in whatever goes on as s does
pub record Stuck (st : State) (u : List ℕ) (i : ℕ) (s : List ℕ) (p : ℕ) : Type 0 where
  pub w : List ℕ
  pub r : List ℕ
  pub split : s ≡ w ++ r
  pub place : p ≡ i + length w
  pub so_far : Viable (u ++ w)
  pub dead : (b : ℕ) (more rest : List ℕ) → r ≡ b ∷ more → run st i (w ++ b ∷ rest) ≡ Err (fault.Malformed p)

stuck_next : (st : State) (u : List ℕ) (i b : ℕ) (s : List ℕ) (p : ℕ) (r : Result State Fault) → step i st b ≡ r → Shaped st u → Good (u ++ b ∷ []) r → Blamed i r
    → ((next : State) → Shaped next (u ++ b ∷ []) → run next (i + 1) s ≡ Err (fault.Malformed p) → Stuck next (u ++ b ∷ []) (i + 1) s p)
    → then r (λ next. run next (i + 1) s) ≡ Err (fault.Malformed p) → Stuck st u i (b ∷ s) p
stuck_next st u i b s p (Ok next) is sh good bl ih e =
    let k = ih next good e in
    record {
      w = b ∷ k.w;
      r = k.r;
      split = ap (λ l. b ∷ l) k.split;
      place = let h = k.place in omega arith;
      so_far = subst Viable (append_assoc u (b ∷ []) k.w) k.so_far;
      dead = λ c more rest q. ap (λ x. then x (λ y. run y (i + 1) (k.w ++ c ∷ rest))) is ∙ k.dead c more rest q;
    }
stuck_next st u i b s p (Err f) is sh good bl ih e =
    let same : f ≡ fault.Malformed p = cc in
    let here : p ≡ i = subst (At i) same bl in
    record {
      w = [];
      r = b ∷ s;
      split = refl;
      place = omega arith;
      so_far = subst Viable (sym (append-nil u)) (viable sh.0);
      dead = λ c more rest q. let at : b ≡ c = cc in subst (λ x. then (step i st x) (λ y. run y (i + 1) rest) ≡ Err (fault.Malformed p)) at (ap (λ x. then x (λ y. run y (i + 1) rest)) (is ∙ ap Err same));
    }

blamed_at : (i p : ℕ) (r : Result Tree Fault) → Blamed i r → r ≡ Err (fault.Malformed p) → p ≡ i
blamed_at i p r h e = subst (Blamed i) e h

stuck : (s : List ℕ) (st : State) (u : List ℕ) (i p : ℕ) → i ≡ length u → Shaped st u → run st i s ≡ Err (fault.Malformed p) → Stuck st u i s p
stuck [] st u i p at sh e =
    let here : p ≡ i = blamed_at i p _ (finished_blamed i st) e in
    record { w = []; r = []; split = refl; place = omega arith; so_far = subst Viable (sym (append-nil u)) (viable sh.0); dead = λ c more rest q. cc }
stuck (b ∷ s) st u i p at sh e =
    stuck_next st u i b s p (step i st b) refl sh (step_good st u i b at sh) (step_blamed i st b) (λ next h q. stuck s next (u ++ b ∷ []) (i + 1) p (at_next u i b at) h q) e

-- ---- no text of the grammar is malformed

hard : (f : Fault) (p : ℕ) → Soft f → ◌≡◌ {A = Result Tree Fault} (Err f) (Err (fault.Malformed p)) → ⊥
hard (fault.Malformed q) p so e = so
hard (fault.Nested q) p so e = cc
hard (fault.Number q) p so e = cc
hard (fault.Crowded q) p so e = cc

never_malformed : {v : Tree} {s : List ℕ} (p : ℕ) → Text v s → run start 0 s ≡ Err (fault.Malformed p) → ⊥
never_malformed {v} {s} p tx = text_run (length s) (λ o. o ≡ Err (fault.Malformed p) → ⊥) tx refl (λ _ f so _ e. hard f p so e) (λ _ _ e. cc)

pub take_one : (w : List ℕ) (b : ℕ) (r : List ℕ) → take (length w + 1) (w ++ b ∷ r) ≡ w ++ b ∷ []
take_one w b r = ap (take (length w + 1)) (sym (append_assoc w (b ∷ []) r)) ∙ take_at (w ++ b ∷ []) r (length w + 1) (omega (arith, length-append w (b ∷ [])))

breaks : (s : List ℕ) (p : ℕ) (w r : List ℕ) → s ≡ w ++ r → p ≡ length w → run start 0 s ≡ Err (fault.Malformed p) → Viable w
    → ((b : ℕ) (more rest : List ℕ) → r ≡ b ∷ more → run start 0 (w ++ b ∷ rest) ≡ Err (fault.Malformed p)) → Breaks s p
breaks s p w [] split place e ok dead =
    let long = ap length split ∙ ap length (append-nil w) in
    record {
      inside = omega arith;
      so_far = subst Viable (sym (ap (λ n. take n s) place ∙ (ap (take (length w)) split ∙ take_at w [] (length w) refl))) ok;
      no_more = λ lt _. omega arith;
      no_text = λ v tx. never_malformed p tx e;
    }
breaks s p w (b ∷ more) split place e ok dead =
    let long = ap length split ∙ length-append w (b ∷ more) in
    record {
      inside = omega arith;
      so_far = subst Viable (sym (ap (λ n. take n s) place ∙ (ap (take (length w)) split ∙ take_at w (b ∷ more) (length w) refl))) ok;
      no_more = λ lt h.
          let g : Viable (w ++ b ∷ []) = subst Viable (ap (λ n. take (n + 1) s) place ∙ (ap (take (length w + 1)) split ∙ take_one w b more)) h in
          never_malformed p (subst (Text g.1) (append_assoc w (b ∷ []) g.0) g.2) (dead b more g.0 refl);
      no_text = λ v tx. never_malformed p tx e;
    }

pub malformed : (s : List ℕ) (p : ℕ) → run start 0 s ≡ Err (fault.Malformed p) → Breaks s p
malformed s p e =
    let k = stuck s start [] 0 p refl start_shape e in
    breaks s p k.w k.r k.split (let h = k.place in omega arith) e k.so_far k.dead

pub sound : (s : List ℕ) (v : Tree) → run start 0 s ≡ Ok v → Text v s
sound s v e = sound_from s start [] 0 v refl start_shape e

-- ---- the other faults

right_next : (u : List ℕ) (i b : ℕ) (s : List ℕ) (f : Fault) (r : Result State Fault) → Good (u ++ b ∷ []) r
    → ((next : State) → Shaped next (u ++ b ∷ []) → run next (i + 1) s ≡ Err f → Right ((u ++ b ∷ []) ++ s) f)
    → then r (λ next. run next (i + 1) s) ≡ Err f → Right ((u ++ b ∷ []) ++ s) f
right_next u i b s f (Ok next) good ih e = ih next good e
right_next u i b s f (Err q) good ih e = let same : q ≡ f = cc in right_more (u ++ b ∷ []) s f (subst (Right (u ++ b ∷ [])) same good)

right_from : (s : List ℕ) (st : State) (u : List ℕ) (i : ℕ) (f : Fault) → i ≡ length u → Shaped st u → run st i s ≡ Err f → Right (u ++ s) f
right_from [] st u i f at sh e = right_more u [] f (subst (Ends u) e (finished_good u i st sh))
right_from (b ∷ s) st u i f at sh e =
    subst (λ l. Right l f) (append_assoc u (b ∷ []) s) (right_next u i b s f (step i st b) (step_good st u i b at sh) (λ next h q. right_from s next (u ++ b ∷ []) (i + 1) f (at_next u i b at) h q) e)

pub stands : (s : List ℕ) (f : Fault) → run start 0 s ≡ Err f → Right s f
stands s f e = right_from s start [] 0 f refl start_shape e
