-- What is accepted is a text, and what is read begins one.
use Rattle.std.proofs.Common.{◌≡◌, ℕ, ◌+◌, leb, List, [], ◌∷◌, ◌++◌, length, Ok, Err, Result, sym, refl, ap, subst, append_assoc, append-nil, arith, length-append}
use Rattle.std.proofs.lemmas.Bool.{cond_both}
use Rattle.json_scanner.specs.declared.modes.Word.{Word}
use Rattle.json_scanner.specs.declared.modes.Word.TheVariants as word
use Rattle.json_scanner.specs.declared.modes.Figures.{Figures}
use Rattle.json_scanner.specs.declared.modes.Figures.TheVariants as figures
use Rattle.json_scanner.specs.declared.modes.Mode.{Mode}
use Rattle.json_scanner.specs.declared.modes.Mode.TheVariants as mode
use Rattle.json_scanner.specs.declared.modes.Fault.{Fault}
use Rattle.json_scanner.specs.declared.modes.Fault.TheVariants as fault
use Rattle.json_scanner.specs.declared.modes.Ready.{Ready}
use Rattle.json_scanner.specs.Grammar.{Tree, Members, Blank, Whole, Numeral, Chars, Value, Text, Viable}
use Rattle.json_scanner.specs.Bytes.{settled, readied, then, figure, broken_off}
use Rattle.json_scanner.specs.Machine.{State, Frame, stepped, step, prepared, ended, finished, run, start}
use Rattle.json_scanner.specs.Faults.{Place, top, within, values_before}
use Rattle.json_scanner.proofs.Strings.{text_completed}
use Rattle.json_scanner.proofs.Numbers.{NumberPart, number_completed}
use Rattle.json_scanner.proofs.Shape.{made_of, elements, entries, Held, behind, Keys, letters, Partial, want, literal, number, text, Shape, key, name, colon, after, amid, begins, Shaped, Right, Good, right_more, puts, put_count, close_list, close_object, named, number_crowds, broken_right, stepped_good}

-- ---- the end of a number

abbrev Readied : List ℕ → State → Result Ready Fault → Type 0
Readied u st (Ok r) = Shaped (prepared r st) u
Readied u st (Err f) = Right u f

as_read : (u : List ℕ) (f : Fault) → Right (u ++ []) f → Right u f
as_read u f h = subst (λ l. Right l f) (append-nil u) h

number_settles : {g : Figures} {f : Frame} {bs : List Frame} {u p : List ℕ} (n : ℕ) → Place f bs u → NumberPart g p → n ≡ values_before f bs + 0
    → Readied (u ++ p) (made_of (mode.Number g (length u)) n [] f bs) (settled (mode.Number g (length u)) n)
number_settles {f = f} {bs = bs} {u = u} {p = p} n pl (NumberPart.whole {g = g} {k = k} num) cnt =
    cond_both (leb 4096 n) _ _ (Readied (u ++ p) (made_of (mode.Number (figures.Whole g k) (length u)) n [] f bs))
    (λ many. as_read (u ++ p) (fault.Crowded (length u)) (number_crowds [] n pl (NumberPart.whole num) cnt many))
    (λ _. (after (puts pl (Value.whole num)), omega (arith, put_count (Tree.number g k) pl)))
number_settles n pl NumberPart.minus cnt = (amid pl (number NumberPart.minus), cnt)
number_settles n pl (NumberPart.point num) cnt = (amid pl (number (NumberPart.point num)), cnt)
number_settles n pl (NumberPart.raised e num he) cnt = (amid pl (number (NumberPart.raised e num he)), cnt)
number_settles n pl (NumberPart.signed e h num he hh) cnt = (amid pl (number (NumberPart.signed e h num he hh)), cnt)

settle_good : {m : Mode} {cs : List ℕ} {f : Frame} {bs : List Frame} {u : List ℕ} (n : ℕ) → Shape m cs f bs u → n ≡ values_before f bs + begins m → Readied u (made_of m n cs f bs) (settled m n)
settle_good n (Shape.first pl ba) cnt = (Shape.first pl ba, cnt)
settle_good n (key pl (Keys.first ba)) cnt = (key pl (Keys.first ba), cnt)
settle_good n (key pl (Keys.next en ba)) cnt = (key pl (Keys.next en ba), cnt)
settle_good n (name pl ks tp) cnt = (name pl ks tp, cnt)
settle_good n (colon pl ks ch bb) cnt = (colon pl ks ch bb, cnt)
settle_good n (after h) cnt = (after h, cnt)
settle_good n (amid pl want) cnt = (amid pl want, cnt)
settle_good n (amid pl (literal w)) cnt = (amid pl (literal w), cnt)
settle_good n (amid pl (number np)) cnt = number_settles n pl np cnt
settle_good n (amid pl (text tp)) cnt = (amid pl (text tp), cnt)

then_good : (u : List ℕ) (i b : ℕ) (st : State) (r : Result Ready Fault) → i ≡ length u → Readied u st r → Good (u ++ b ∷ []) (then r (λ q. stepped i (prepared q st) b))
then_good u i b st (Ok r) at h = stepped_good i b r.values at h.0 h.1
then_good u i b st (Err f) at h = right_more u (b ∷ []) f h

pub step_good : (st : State) (u : List ℕ) (i b : ℕ) → i ≡ length u → Shaped st u → Good (u ++ b ∷ []) (step i st b)
step_good st u i b at sh =
    then_good u i b st (readied b st.mode st.values) at (cond_both (figure b) _ _ (Readied u st) (λ _. sh) (λ _. settle_good st.values sh.0 sh.1))

-- ---- the end of the text

-- what is answered at the end
abbrev pub Ends : List ℕ → Result Tree Fault → Type 0
Ends u (Ok v) = Text v u
Ends u (Err f) = Right u f

ended_good : {m : Mode} {cs : List ℕ} {f : Frame} {bs : List Frame} {u : List ℕ} (i n : ℕ) → Shape m cs f bs u → n ≡ values_before f bs + begins m → Ends u (ended i m (made_of m n cs f bs))
ended_good i n (Shape.first pl ba) cnt = tt
ended_good i n (key pl (Keys.first ba)) cnt = tt
ended_good i n (key pl (Keys.next en ba)) cnt = tt
ended_good i n (name pl ks tp) cnt = tt
ended_good i n (colon pl ks ch bb) cnt = tt
ended_good i n (after (Held.whole tx)) cnt = tx
ended_good i n (after (behind pl fu)) cnt = tt
ended_good i n (amid pl want) cnt = tt
ended_good i n (amid pl (literal w)) cnt = tt
ended_good i n (amid {u = u} {p = p} pl (number np)) cnt = as_read (u ++ p) (broken_off n (length u) i) (broken_right [] n i pl np cnt)
ended_good i n (amid pl (text tp)) cnt = tt

ends_good : (u : List ℕ) (i : ℕ) (st : State) (r : Result Ready Fault) → Readied u st r → Ends u (then r (λ q. ended i q.mode (prepared q st)))
ends_good u i st (Ok r) h = ended_good i r.values h.0 h.1
ends_good u i st (Err f) h = h

pub finished_good : (u : List ℕ) (i : ℕ) (st : State) → Shaped st u → Ends u (finished i st)
finished_good u i st sh = ends_good u i st (settled st.mode st.values) (settle_good st.values sh.0 sh.1)

sound_next : (r : Result State Fault) (s u : List ℕ) (b i : ℕ) (v : Tree) → ((st : State) → Shaped st (u ++ b ∷ []) → run st (i + 1) s ≡ Ok v → Text v ((u ++ b ∷ []) ++ s))
    → Good (u ++ b ∷ []) r → then r (λ next. run next (i + 1) s) ≡ Ok v → Text v (u ++ b ∷ s)
sound_next (Ok st) s u b i v ih h e = subst (Text v) (append_assoc u (b ∷ []) s) (ih st h e)
sound_next (Err f) s u b i v ih h e = cc

pub at_next : (u : List ℕ) (i b : ℕ) → i ≡ length u → i + 1 ≡ length (u ++ b ∷ [])
at_next u i b e = omega (arith, length-append u (b ∷ []))

pub sound_from : (s : List ℕ) (st : State) (u : List ℕ) (i : ℕ) (v : Tree) → i ≡ length u → Shaped st u → run st i s ≡ Ok v → Text v (u ++ s)
sound_from [] st u i v at sh e = subst (Text v) (sym (append-nil u)) (subst (Ends u) e (finished_good u i st sh))
sound_from (b ∷ s) st u i v at sh e = sound_next (step i st b) s u b i v (λ next h q. sound_from s next (u ++ b ∷ []) (i + 1) v (at_next u i b at) h q) (step_good st u i b at sh) e

pub start_shape : Shaped start []
start_shape = (amid (top Blank.none) want, refl)

-- ---- each state can be completed

pub viable_prefix : (u w : List ℕ) → Viable (u ++ w) → Viable u
viable_prefix u w h = (w ++ h.0, h.1, subst (Text h.1) (append_assoc u w h.0) h.2)

held_viable : (bs : List Frame) (f : Frame) (u : List ℕ) → Held f bs u → Viable u
held_viable [] f u (Held.whole tx) = ([], _, subst (Text _) (sym (append-nil u)) tx)
held_viable (g ∷ bs) f u (behind {u = x} pl (elements {e = e} el)) = viable_prefix (x ++ 91 ∷ e) (93 ∷ []) (held_viable bs _ _ (close_list pl el))
held_viable (g ∷ bs) f u (behind {u = x} pl (entries {e = e} en)) = viable_prefix (x ++ 123 ∷ e) (125 ∷ []) (held_viable bs _ _ (close_object pl en))

-- where a value is wanted, one may stand
pub value_viable : {f : Frame} {bs : List Frame} {u s : List ℕ} {v : Tree} → Place f bs u → Value v s → Viable (u ++ s)
value_viable pl val = held_viable _ _ _ (puts pl val)

place_viable : {f : Frame} {bs : List Frame} {u : List ℕ} → Place f bs u → Viable u
place_viable {u = u} pl = viable_prefix u (48 ∷ []) (value_viable pl (Value.whole (Whole.plus (Numeral.digit 48 refl))))

letters_viable : (w : Word) → (q : List ℕ) × (v : Tree) × Value v (letters w ++ q)
letters_viable word.N = (117 ∷ 108 ∷ 108 ∷ [], _, Value.null_word)
letters_viable word.Nu = (108 ∷ 108 ∷ [], _, Value.null_word)
letters_viable word.Nul = (108 ∷ [], _, Value.null_word)
letters_viable word.T = (114 ∷ 117 ∷ 101 ∷ [], _, Value.true_word)
letters_viable word.Tr = (117 ∷ 101 ∷ [], _, Value.true_word)
letters_viable word.Tru = (101 ∷ [], _, Value.true_word)
letters_viable word.F = (97 ∷ 108 ∷ 115 ∷ 101 ∷ [], _, Value.false_word)
letters_viable word.Fa = (108 ∷ 115 ∷ 101 ∷ [], _, Value.false_word)
letters_viable word.Fal = (115 ∷ 101 ∷ [], _, Value.false_word)
letters_viable word.Fals = (101 ∷ [], _, Value.false_word)

completed : {k : ℕ} {m : Mode} {cs p : List ℕ} → Partial k m cs p → (q : List ℕ) × (v : Tree) × Value v (p ++ q)
completed want = (48 ∷ [], _, Value.whole (Whole.plus (Numeral.digit 48 refl)))
completed (literal w) = letters_viable w
completed (number np) = number_completed np
completed (text {s = s} tp) = let h = text_completed tp in (h.0 ++ 34 ∷ [], _, subst (Value _) (ap (λ l. 34 ∷ l) (append_assoc s h.0 (34 ∷ []))) (Value.string h.2))

colon_viable : {m : Mode} {ms : Members} {f : Frame} {bs : List Frame} {k u w s b : List ℕ} → Place f bs u → Keys m ms w → Chars k s → Blank b → Viable (u ++ (w ++ 34 ∷ s ++ 34 ∷ b))
colon_viable {u = u} {w = w} {s = s} {b = b} pl ks ch bb =
    viable_prefix (u ++ (w ++ 34 ∷ s ++ 34 ∷ b)) (58 ∷ []) (subst Viable (sym (append_assoc u (w ++ 34 ∷ s ++ 34 ∷ b) (58 ∷ []))) (place_viable (within pl (named ks ch bb Blank.none))))

join_key : (u w q t r : List ℕ) → u ++ ((w ++ (q ++ t)) ++ r) ≡ (u ++ (w ++ q)) ++ (t ++ r)
join_key u w q t r = simp append_assoc

name_viable : {m : Mode} {ms : Members} {f : Frame} {bs : List Frame} {k u w : List ℕ} (s t : List ℕ) → Place f bs u → Keys m ms w → Chars k (s ++ t) → Viable (u ++ (w ++ 34 ∷ s))
name_viable {u = u} {w = w} s t pl ks ch =
    viable_prefix (u ++ (w ++ 34 ∷ s)) (t ++ 34 ∷ []) (subst Viable (join_key u w (34 ∷ s) t (34 ∷ [])) (colon_viable pl ks ch Blank.none))

pub viable : {m : Mode} {cs : List ℕ} {f : Frame} {bs : List Frame} {u : List ℕ} → Shape m cs f bs u → Viable u
viable (Shape.first {u = u} {a = a} pl ba) = viable_prefix (u ++ 91 ∷ a) (93 ∷ []) (subst Viable (sym (append_assoc u (91 ∷ a) (93 ∷ []))) (value_viable pl (Value.empty_list ba)))
viable (key {u = u} {w = w} pl ks) = viable_prefix (u ++ w) (34 ∷ []) (subst Viable (sym (append_assoc u w (34 ∷ []))) (name_viable [] [] pl ks Chars.none))
viable (name {s = s} pl ks tp) = let h = text_completed tp in name_viable s h.0 pl ks h.2
viable (colon pl ks ch bb) = colon_viable pl ks ch bb
viable (after h) = held_viable _ _ _ h
viable (amid {u = u} {p = p} pl part) =
    let q = completed part in
    viable_prefix (u ++ p) q.0 (subst Viable (sym (append_assoc u p q.0)) (value_viable pl q.2))
