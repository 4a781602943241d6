-- What the machine has read, by the grammar: soundness, and that each state can be completed.
use Rattle.std.proofs.Common.{◌≡◌, ℕ, suc, ◌+◌, ◌-◌, ◌≤◌, true, false, cond, ◌||◌, eqb, leb, List, [], ◌∷◌, ◌++◌, length, Some, None, Ok, Err, Option, Result, sym, refl, ap, ◌∙◌, subst, append_assoc, append-nil, arith, eqb-true}
use Rattle.std.proofs.lemmas.Bool.{cond_both, or_left, or_right, leb-true}
use Rattle.std.proofs.lemmas.Bool.Decides.{nat_tests}
use Rattle.std.specs.Char.{is_ascii_digit}
use Rattle.json_scanner.specs.declared.modes.Role.TheVariants as role
use Rattle.json_scanner.specs.declared.modes.Inside.{Inside}
use Rattle.json_scanner.specs.declared.modes.Inside.TheVariants as inside
use Rattle.json_scanner.specs.declared.modes.Piece.{Piece}
use Rattle.json_scanner.specs.declared.modes.Container.{Container}
use Rattle.json_scanner.specs.declared.modes.Container.TheVariants as container
use Rattle.json_scanner.specs.declared.modes.Word.{Word}
use Rattle.json_scanner.specs.declared.modes.Word.TheVariants as word
use Rattle.json_scanner.specs.declared.modes.Figures.{Figures}
use Rattle.json_scanner.specs.declared.modes.Figures.TheVariants as figures
use Rattle.json_scanner.specs.declared.modes.NumberError.{NumberError}
use Rattle.json_scanner.specs.declared.modes.NumberError.TheVariants as number_error
use Rattle.json_scanner.specs.declared.modes.Mode.{Mode}
use Rattle.json_scanner.specs.declared.modes.Mode.TheVariants as mode
use Rattle.json_scanner.specs.declared.modes.Act.TheVariants as act
use Rattle.json_scanner.specs.declared.modes.Fault.{Fault}
use Rattle.json_scanner.specs.declared.modes.Fault.TheVariants as fault
use Rattle.json_scanner.specs.Grammar.{Tree, Trees, nil, Members, none, size, white, Blank, Whole, Numeral, Chars, Name, Value, Elements, Entries, Text}
use Rattle.json_scanner.specs.Bytes.{Moved, Spelling, goes, begun, opening, beginning, keyed, judged, broken_off, noted, act_of, spelled, closing, letter, spelling, figured}
use Rattle.json_scanner.specs.Machine.{State, Frame, sole, items, fields, field, kinds, put, surroundings, performed, carried, stepped}
use Rattle.json_scanner.specs.Faults.{Inner, Place, top, within, values_before, inner_values, starts, Nests, Misfits, Crowds}
use Rattle.json_scanner.proofs.Strings.{TextPart, between, added, Grown, text_grows, text_closes}
use Rattle.json_scanner.proofs.Numbers.{NumberPart, Judged, number_grows, part-opens, opens-starts}

abbrev pub made_of : Mode → ℕ → List ℕ → Frame → List Frame → State
made_of m n cs f bs = record { mode = m; values = n; chars = cs; top = f; below = bs }

-- from the bracket of a container to behind a value of its own
pub data Full : Frame → List ℕ → Type 0 where
  elements : {ts : Trees} {e : List ℕ} → Elements ts e → Full (items ts) (91 ∷ e)
  entries : {ms : Members} {e : List ℕ} → Entries ms e → Full (fields ms) (123 ∷ e)

-- behind a value
pub data Held : Frame → List Frame → List ℕ → Type 0 where
  whole : {v : Tree} {s : List ℕ} → Text v s → Held (sole v) [] s
  behind : {f g : Frame} {bs : List Frame} {u w : List ℕ} → Place f bs u → Full g w → Held g (f ∷ bs) (u ++ w)

-- from the brace of an object to where a key is wanted
pub data Keys : Mode → Members → List ℕ → Type 0 where
  first : {a : List ℕ} → Blank a → Keys mode.FirstKey none (123 ∷ a)
  next : {ms : Members} {e a : List ℕ} → Entries ms e → Blank a → Keys mode.NextKey ms (123 ∷ e ++ 44 ∷ a)

-- the letters of a literal so far
abbrev pub letters : Word → List ℕ
letters word.N = 110 ∷ []
letters word.Nu = 110 ∷ 117 ∷ []
letters word.Nul = 110 ∷ 117 ∷ 108 ∷ []
letters word.T = 116 ∷ []
letters word.Tr = 116 ∷ 114 ∷ []
letters word.Tru = 116 ∷ 114 ∷ 117 ∷ []
letters word.F = 102 ∷ []
letters word.Fa = 102 ∷ 97 ∷ []
letters word.Fal = 102 ∷ 97 ∷ 108 ∷ []
letters word.Fals = 102 ∷ 97 ∷ 108 ∷ 115 ∷ []

-- the beginning of a value that is at k
pub data Partial (k : ℕ) : Mode → List ℕ → List ℕ → Type 0 where
  want : Partial k mode.Want [] []
  literal : (w : Word) → Partial k (mode.Word w) [] (letters w)
  number : {f : Figures} {p : List ℕ} → NumberPart f p → Partial k (mode.Number f k) [] p
  text : {x : Inside} {cs s : List ℕ} → TextPart x cs s → Partial k (mode.Text role.Value x) cs (34 ∷ s)

pub data Shape : Mode → List ℕ → Frame → List Frame → List ℕ → Type 0 where
  first : {f : Frame} {bs : List Frame} {u a : List ℕ} → Place f bs u → Blank a → Shape mode.First [] (items nil) (f ∷ bs) (u ++ 91 ∷ a)
  key : {m : Mode} {ms : Members} {f : Frame} {bs : List Frame} {u w : List ℕ} → Place f bs u → Keys m ms w → Shape m [] (fields ms) (f ∷ bs) (u ++ w)
  name : {m : Mode} {ms : Members} {f : Frame} {bs : List Frame} {x : Inside} {cs u w s : List ℕ} → Place f bs u → Keys m ms w → TextPart x cs s
      → Shape (mode.Text role.Key x) cs (fields ms) (f ∷ bs) (u ++ (w ++ 34 ∷ s))
  colon : {m : Mode} {ms : Members} {f : Frame} {bs : List Frame} {k u w s b : List ℕ} → Place f bs u → Keys m ms w → Chars k s → Blank b
      → Shape mode.Colon [] (field ms k) (f ∷ bs) (u ++ (w ++ 34 ∷ s ++ 34 ∷ b))
  after : {f : Frame} {bs : List Frame} {u : List ℕ} → Held f bs u → Shape mode.After [] f bs u
  amid : {m : Mode} {cs : List ℕ} {f : Frame} {bs : List Frame} {u p : List ℕ} → Place f bs u → Partial (length u) m cs p → Shape m cs f bs (u ++ p)

-- a value that has begun, and is not yet in its container
abbrev pub begins : Mode → ℕ
begins mode.Want = 0
begins mode.First = 0
begins mode.FirstKey = 0
begins mode.NextKey = 0
begins mode.Colon = 0
begins mode.After = 0
begins (mode.Word w) = 1
begins (mode.Number f from) = 0
begins (mode.Text role.Key x) = 0
begins (mode.Text role.Value x) = 1

abbrev pub Shaped : State → List ℕ → Type 0
Shaped st u = Shape st.mode st.chars st.top st.below u × (st.values ≡ values_before st.top st.below + begins st.mode)

-- what stands at a fault that is not that of a malformed text
abbrev pub Right : List ℕ → Fault → Type 0
Right s (fault.Malformed p) = Unit {0}
Right s (fault.Nested p) = Nests s p
Right s (fault.Number p) = Misfits s p
Right s (fault.Crowded p) = Crowds s p

abbrev pub Good : List ℕ → Result State Fault → Type 0
Good u (Ok st) = Shaped st u
Good u (Err f) = Right u f

pub right_more : (s t : List ℕ) (f : Fault) → Right s f → Right (s ++ t) f
right_more s t (fault.Malformed p) h = tt
right_more s t (fault.Nested p) h =
    record { before = h.before; b = h.b; rest = h.rest ++ t; f = h.f; bs = h.bs; split = ap (λ l. l ++ t) h.split ∙ append_assoc h.before (h.b ∷ h.rest) t; place = h.place; wanted = h.wanted; bracket = h.bracket; deep = h.deep }
right_more s t (fault.Number p) h =
    record { before = h.before; digits = h.digits; rest = h.rest ++ t; f = h.f; bs = h.bs; split = ap (λ l. l ++ t) h.split ∙ (append_assoc h.before (h.digits ++ h.rest) t ∙ ap (λ l. h.before ++ l) (append_assoc h.digits h.rest t)); place = h.place; wanted = h.wanted; misfit = h.misfit }
right_more s t (fault.Crowded p) h =
    record { before = h.before; b = h.b; rest = h.rest ++ t; f = h.f; bs = h.bs; split = ap (λ l. l ++ t) h.split ∙ append_assoc h.before (h.b ∷ h.rest) t; place = h.place; wanted = h.wanted; begins = h.begins; many = h.many }

-- ---- one value more, one blank more

inner_puts : {f : Frame} {w s : List ℕ} {v : Tree} → Inner f w → Value v s → Full (put f v) (w ++ s)
inner_puts (Inner.first ba) val = subst (Full _) (simp (append_assoc, append-nil)) (elements (Elements.one ba val Blank.none))
inner_puts (Inner.next el ba) val = subst (Full _) (simp (append_assoc, append-nil)) (elements (Elements.more el ba val Blank.none))
inner_puts (Inner.first_field na ba) val = subst (Full _) (simp (append_assoc, append-nil)) (entries (Entries.sole na ba val Blank.none))
inner_puts (Inner.next_field en na ba) val = subst (Full _) (simp (append_assoc, append-nil)) (entries (Entries.further en na ba val Blank.none))

pub puts : {f : Frame} {bs : List Frame} {u s : List ℕ} {v : Tree} → Place f bs u → Value v s → Held (put f v) bs (u ++ s)
puts (top ba) val = subst (Held _ _) (simp (append_assoc, append-nil)) (Held.whole (Text.whole ba val Blank.none))
puts (within {u = u} {w = w} pl inn) val = subst (Held _ _) (sym (append_assoc u w _)) (behind pl (inner_puts inn val))

inner_count : {f : Frame} {w : List ℕ} (v : Tree) → Inner f w → inner_values (put f v) ≡ inner_values f + size v
inner_count v (Inner.first ba) = refl
inner_count v (Inner.next el ba) = refl
inner_count v (Inner.first_field na ba) = refl
inner_count v (Inner.next_field en na ba) = refl

pub put_count : {f : Frame} {bs : List Frame} {u : List ℕ} (v : Tree) → Place f bs u → values_before (put f v) bs ≡ values_before f bs + size v
put_count v (top ba) = omega arith
put_count v (within pl inn) = omega (arith, inner_count v inn)

inner_blank : {f : Frame} {w : List ℕ} (b : ℕ) → white b ≡ true → Inner f w → Inner f (w ++ b ∷ [])
inner_blank b h (Inner.first ba) = Inner.first (Blank.more b ba h)
inner_blank b h (Inner.next el ba) = subst (Inner _) (simp append_assoc) (Inner.next el (Blank.more b ba h))
inner_blank b h (Inner.first_field na ba) = subst (Inner _) (simp append_assoc) (Inner.first_field na (Blank.more b ba h))
inner_blank b h (Inner.next_field en na ba) = subst (Inner _) (simp append_assoc) (Inner.next_field en na (Blank.more b ba h))

place-blank : {f : Frame} {bs : List Frame} {u : List ℕ} (b : ℕ) → white b ≡ true → Place f bs u → Place f bs (u ++ b ∷ [])
place-blank b h (top ba) = top (Blank.more b ba h)
place-blank b h (within {u = u} {w = w} pl inn) = subst (Place _ _) (sym (append_assoc u w (b ∷ []))) (within pl (inner_blank b h inn))

keys_blank : {m : Mode} {ms : Members} {w : List ℕ} (b : ℕ) → white b ≡ true → Keys m ms w → Keys m ms (w ++ b ∷ [])
keys_blank b h (Keys.first ba) = Keys.first (Blank.more b ba h)
keys_blank b h (Keys.next en ba) = subst (Keys _ _) (simp append_assoc) (Keys.next en (Blank.more b ba h))

elements-blank : {ts : Trees} {e : List ℕ} (b : ℕ) → white b ≡ true → Elements ts e → Elements ts (e ++ b ∷ [])
elements-blank b w (Elements.one ba val bb) = subst (Elements _) (simp append_assoc) (Elements.one ba val (Blank.more b bb w))
elements-blank b w (Elements.more el ba val bb) = subst (Elements _) (simp append_assoc) (Elements.more el ba val (Blank.more b bb w))

join_name : (e y a q r k c : List ℕ) → (e ++ (y ++ (((a ++ q) ++ r) ++ k))) ++ c ≡ (((e ++ (y ++ a)) ++ q) ++ r) ++ (k ++ c)
join_name e y a q r k c = simp append_assoc

entries_blank : {ms : Members} {e : List ℕ} (b : ℕ) → white b ≡ true → Entries ms e → Entries ms (e ++ b ∷ [])
entries_blank b w (Entries.sole na ba val bb) = subst (Entries _) (simp append_assoc) (Entries.sole na ba val (Blank.more b bb w))
entries_blank b h (Entries.further {w = w} {n = n} {a = a} {s = s} {b = c} en na ba val bb) = subst (Entries _) (sym (append_assoc (w ++ 44 ∷ n ++ a ++ s) c (b ∷ []))) (Entries.further en na ba val (Blank.more b bb h))

text_blank : {v : Tree} {s : List ℕ} (b : ℕ) → white b ≡ true → Text v s → Text v (s ++ b ∷ [])
text_blank b w (Text.whole ba val bb) = subst (Text _) (simp append_assoc) (Text.whole ba val (Blank.more b bb w))

held-blank : {f : Frame} {bs : List Frame} {u : List ℕ} (b : ℕ) → white b ≡ true → Held f bs u → Held f bs (u ++ b ∷ [])
held-blank b w (Held.whole tx) = Held.whole (text_blank b w tx)
held-blank b w (behind {u = u} pl (elements {e = e} el)) = subst (Held _ _) (sym (append_assoc u (91 ∷ e) (b ∷ []))) (behind pl (elements (elements-blank b w el)))
held-blank b w (behind {u = u} pl (entries {e = e} en)) = subst (Held _ _) (sym (append_assoc u (123 ∷ e) (b ∷ []))) (behind pl (entries (entries_blank b w en)))

pub close_list : {f : Frame} {bs : List Frame} {ts : Trees} {u e : List ℕ} → Place f bs u → Elements ts e → Held (put f (Tree.list ts)) bs ((u ++ 91 ∷ e) ++ 93 ∷ [])
close_list pl el = subst (Held _ _) (simp append_assoc) (puts pl (Value.full_list el))

pub close_object : {f : Frame} {bs : List Frame} {ms : Members} {u e : List ℕ} → Place f bs u → Entries ms e → Held (put f (Tree.object ms)) bs ((u ++ 123 ∷ e) ++ 125 ∷ [])
close_object pl en = subst (Held _ _) (simp append_assoc) (puts pl (Value.full_object en))

-- a key, its colon, and blanks: a value is wanted
pub named : {m : Mode} {ms : Members} {k w s b c : List ℕ} → Keys m ms w → Chars k s → Blank b → Blank c → Inner (field ms k) ((w ++ 34 ∷ s ++ 34 ∷ b) ++ 58 ∷ c)
named (Keys.first ba) ch bb bc = subst (Inner _) (simp append_assoc) (Inner.first_field (Name.name ba ch bb) bc)
named {s = s} {b = b} {c = c} (Keys.next {e = e} {a = a} en ba) ch bb bc = subst (Inner _) (join_name (123 ∷ e) (44 ∷ []) a (34 ∷ s) (34 ∷ b) (58 ∷ []) c) (Inner.next_field en (Name.name ba ch bb) bc)

-- ---- a step

pub kinds-length : (f : Frame) (bs : List Frame) → length (kinds f bs) ≡ length bs
kinds-length f [] = refl
kinds-length f (g ∷ gs) = ap suc (kinds-length g gs)

byte : {st : State} (u : List ℕ) (b c : ℕ) → eqb b c ≡ true → Shaped st (u ++ c ∷ []) → Shaped st (u ++ b ∷ [])
byte {st} u b c e sh = grind (arith, nat_tests)

module _ {f : Frame} {bs : List Frame} {u : List ℕ} (i b n : ℕ) (at : i ≡ length u) (pl : Place f bs u) (cnt : n ≡ values_before f bs) where
  crowds : starts b ≡ true → leb 4096 n ≡ true → Crowds (u ++ b ∷ []) i
  crowds st many = grind (arith, nat_tests)

  nests : (eqb b 91 || eqb b 123) ≡ true → leb 200 (length (kinds f bs)) ≡ true → Nests (u ++ b ∷ []) i
  nests br deep = record { before = u; b = b; rest = []; f = f; bs = bs; split = refl; place = at; wanted = pl; bracket = br; deep = subst (λ x. 200 ≤ x) (kinds-length f bs) (leb-true 200 (length (kinds f bs)) deep) }

  bracket_starts : (eqb b 91 || eqb b 123) ≡ true → starts b ≡ true
  bracket_starts e = grind (arith, nat_tests)

  opening_good : (m k : Mode) (c : Container) → (eqb b 91 || eqb b 123) ≡ true → Shaped (performed (act.Open c) k (made_of m n [] f bs)) (u ++ b ∷ [])
      → Good (u ++ b ∷ []) (carried (opening (surroundings i (kinds f bs) n) k c) (made_of m n [] f bs))
  opening_good m k c br ok =
      let P : Moved → Type 0 = λ mv. Good (u ++ b ∷ []) (carried mv (made_of m n [] f bs)) in
      cond_both (leb 200 (length (kinds f bs))) _ _ P (nests br) (λ _. cond_both (leb 4096 n) _ _ P (crowds (bracket_starts br)) (λ _. ok))

  beginning_good : (m k : Mode) → starts b ≡ true → begins k ≡ 1 → Shape k [] f bs (u ++ b ∷ []) → Good (u ++ b ∷ []) (carried (beginning (surroundings i (kinds f bs) n) k) (made_of m n [] f bs))
  beginning_good m k st one ok = grind (arith, nat_tests)

  at_byte : {k : Mode} {cs : List ℕ} {g : Frame} {gs : List Frame} (c : ℕ) → eqb b c ≡ true → Shape k cs g gs (u ++ c ∷ []) → Shape k cs g gs (u ++ b ∷ [])
  at_byte {k} {cs} {g} {gs} c e sh = grind (arith, nat_tests)

  starts_at : (c : ℕ) → starts c ≡ true → eqb b c ≡ true → starts b ≡ true
  starts_at c s e = subst (λ x. starts x ≡ true) (sym (eqb-true b c e)) s

  begun_good : (m stay : Mode) → (white b ≡ true → Shaped (made_of stay n [] f bs) (u ++ b ∷ [])) → Good (u ++ b ∷ []) (carried (begun stay (surroundings i (kinds f bs) n) b) (made_of m n [] f bs))
  begun_good m stay stays =
      let P : Moved → Type 0 = λ mv. Good (u ++ b ∷ []) (carried mv (made_of m n [] f bs)) in
      cond_both (white b) _ _ P stays
      (λ _. cond_both (eqb b 91) _ _ P (λ e. opening_good m mode.First container.List (or_left (eqb b 91) (eqb b 123) e) (at_byte 91 e (Shape.first pl Blank.none), omega arith))
      (λ _. cond_both (eqb b 123) _ _ P (λ e. opening_good m mode.FirstKey container.Object (or_right (eqb b 91) (eqb b 123) e) (at_byte 123 e (Shape.key pl (Keys.first Blank.none)), omega arith))
      (λ _. cond_both (eqb b 45) _ _ P (λ e. subst (λ x. Shaped (made_of (mode.Number figures.Minus x) n [] f bs) (u ++ b ∷ [])) (sym at) (at_byte 45 e (amid pl (number NumberPart.minus)), omega arith))
      (λ _. cond_both (is_ascii_digit b) _ _ P (λ e. subst (λ x. Shaped (made_of (mode.Number (figures.Whole false (b - 48)) x) n [] f bs) (u ++ b ∷ [])) (sym at) (amid pl (number (NumberPart.whole (Whole.plus (Numeral.digit b e)))), omega arith))
      (λ _. cond_both (eqb b 34) _ _ P (λ e. beginning_good m (mode.Text role.Value inside.Plain) (starts_at 34 refl e) refl (at_byte 34 e (amid pl (text (between Chars.none)))))
      (λ _. cond_both (eqb b 110) _ _ P (λ e. beginning_good m (mode.Word word.N) (starts_at 110 refl e) refl (at_byte 110 e (amid pl (literal word.N))))
      (λ _. cond_both (eqb b 116) _ _ P (λ e. beginning_good m (mode.Word word.T) (starts_at 116 refl e) refl (at_byte 116 e (amid pl (literal word.T))))
      (λ _. cond_both (eqb b 102) _ _ P (λ e. beginning_good m (mode.Word word.F) (starts_at 102 refl e) refl (at_byte 102 e (amid pl (literal word.F))))
      (λ _. tt)))))))))

-- one more byte of the value that is being read
grows : {k : Mode} {ds : List ℕ} {f : Frame} {bs : List Frame} {u q : List ℕ} (p : List ℕ) (b : ℕ) → Place f bs u → p ++ b ∷ [] ≡ q → Partial (length u) k ds q → Shape k ds f bs ((u ++ p) ++ b ∷ [])
grows {u = u} p b pl e part = subst (Shape _ _ _ _) (ap (λ x. u ++ x) (sym e) ∙ sym (append_assoc u p (b ∷ []))) (amid pl part)

-- its last byte
last : {f : Frame} {bs : List Frame} {u s : List ℕ} {v : Tree} (p : List ℕ) (b : ℕ) → Place f bs u → p ++ b ∷ [] ≡ s → Value v s → Shape mode.After [] (put f v) bs ((u ++ p) ++ b ∷ [])
last {u = u} p b pl e val = after (subst (Held _ _) (ap (λ x. u ++ x) (sym e) ∙ sym (append_assoc u p (b ∷ []))) (puts pl val))

-- a literal
word_good : {f : Frame} {bs : List Frame} {u : List ℕ} (w : Word) (i b n : ℕ) → Place f bs u → n ≡ values_before f bs + 1
    → Good ((u ++ letters w) ++ b ∷ []) (carried (cond (eqb b (letter w)) (Ok (spelling w)) (Err (fault.Malformed i))) (made_of (mode.Word w) n [] f bs))
word_good {f} {bs} {u} w i b n pl cnt = cond_both (eqb b (letter w)) _ _ (λ mv. Good ((u ++ letters w) ++ b ∷ []) (carried mv (made_of (mode.Word w) n [] f bs))) (λ e. subst (λ x. Good ((u ++ letters w) ++ x ∷ []) (carried (Ok (spelling w)) (made_of (mode.Word w) n [] f bs))) (sym (eqb-true b (letter w) e)) (spells w)) (λ _. tt)
  where
    spells : (w : Word) → Good ((u ++ letters w) ++ letter w ∷ []) (carried (Ok (spelling w)) (made_of (mode.Word w) n [] f bs))
    spells word.N = (grows _ 117 pl refl (literal word.Nu), cnt)
    spells word.Nu = (grows _ 108 pl refl (literal word.Nul), cnt)
    spells word.Nul = (last _ 108 pl refl Value.null_word, omega (arith, put_count Tree.null pl))
    spells word.T = (grows _ 114 pl refl (literal word.Tr), cnt)
    spells word.Tr = (grows _ 117 pl refl (literal word.Tru), cnt)
    spells word.Tru = (last _ 101 pl refl Value.true_word, omega (arith, put_count (Tree.bool true) pl))
    spells word.F = (grows _ 97 pl refl (literal word.Fa), cnt)
    spells word.Fa = (grows _ 108 pl refl (literal word.Fal), cnt)
    spells word.Fal = (grows _ 115 pl refl (literal word.Fals), cnt)
    spells word.Fals = (last _ 101 pl refl Value.false_word, omega (arith, put_count (Tree.bool false) pl))

-- a number that is one value too many
pub number_crowds : {g : Figures} {f : Frame} {bs : List Frame} {u p : List ℕ} (r : List ℕ) (n : ℕ) → Place f bs u → NumberPart g p → n ≡ values_before f bs + 0 → leb 4096 n ≡ true → Crowds ((u ++ p) ++ r) (length u)
number_crowds {f = f} {bs = bs} {u = u} {p = p} r n pl np cnt many =
    let o = part-opens np in
    let e : n ≡ values_before f bs = omega arith in
    record { before = u; b = o.0; rest = o.1 ++ r; f = f; bs = bs; split = append_assoc u p r ∙ ap (λ l. u ++ (l ++ r)) o.3; place = refl; wanted = pl; begins = opens-starts o.0 o.2; many = subst (λ x. 4096 ≤ x) e (leb-true 4096 n many) }

pub broken_right : {g : Figures} {f : Frame} {bs : List Frame} {u p : List ℕ} (r : List ℕ) (n i : ℕ) → Place f bs u → NumberPart g p → n ≡ values_before f bs + 0 → Right ((u ++ p) ++ r) (broken_off n (length u) i)
broken_right {u = u} {p = p} r n i pl np cnt = cond_both (leb 4096 n) _ _ (Right ((u ++ p) ++ r)) (number_crowds r n pl np cnt) (λ _. tt)

judged_good : {g : Figures} {f : Frame} {bs : List Frame} {u p : List ℕ} (v : Result Figures NumberError) (i b n : ℕ) → Place f bs u → NumberPart g p → n ≡ values_before f bs + 0 → Judged p b v
    → Good ((u ++ p) ++ b ∷ []) (carried (judged v n (length u) i) (made_of (mode.Number g (length u)) n [] f bs))
judged_good {p = p} (Ok h) i b n pl np cnt j = (grows p b pl refl (number j), cnt)
judged_good {f = f} {bs = bs} {u = u} {p = p} (Err number_error.Unfit) i b n pl np cnt j =
    record { before = u; digits = p ++ b ∷ []; rest = []; f = f; bs = bs; split = append_assoc u p (b ∷ []) ∙ ap (λ l. u ++ l) (sym (append-nil (p ++ b ∷ []))); place = refl; wanted = pl; misfit = j }
judged_good (Err number_error.Broken) i b n pl np cnt j = broken_right (b ∷ []) n i pl np cnt

-- a string
value-noted : {f : Frame} {bs : List Frame} {u : List ℕ} (cs s : List ℕ) (m : Mode) (b n : ℕ) → Place f bs u → n ≡ values_before f bs + 1 → (x : Inside) (p : Option Piece) → TextPart x (added cs p) (s ++ b ∷ [])
    → Good ((u ++ 34 ∷ s) ++ b ∷ []) (carried (goes (mode.Text role.Value x) (act_of p)) (made_of m n cs f bs))
value-noted cs s m b n pl cnt x None tp = (grows (34 ∷ s) b pl refl (text tp), cnt)
value-noted cs s m b n pl cnt x (Some p) tp = (grows (34 ∷ s) b pl refl (text tp), cnt)

value-spelled : {f : Frame} {bs : List Frame} {u : List ℕ} (cs s : List ℕ) (m : Mode) (i b n : ℕ) → Place f bs u → n ≡ values_before f bs + 1 → (sp : Spelling) → Grown cs s b sp
    → Good ((u ++ 34 ∷ s) ++ b ∷ []) (carried (noted role.Value sp i) (made_of m n cs f bs))
value-spelled cs s m i b n pl cnt (Some x) g = value-noted cs s m b n pl cnt x.at x.piece g
value-spelled cs s m i b n pl cnt None g = tt

key_byte : {m : Mode} {ms : Members} {f : Frame} {bs : List Frame} {x : Inside} {cs u w : List ℕ} (s : List ℕ) (b : ℕ) → Place f bs u → Keys m ms w → TextPart x cs (s ++ b ∷ [])
    → Shape (mode.Text role.Key x) cs (fields ms) (f ∷ bs) ((u ++ (w ++ 34 ∷ s)) ++ b ∷ [])
key_byte {u = u} {w = w} s b pl ks tp = subst (Shape _ _ _ _) (ap (λ l. u ++ l) (sym (append_assoc w (34 ∷ s) (b ∷ []))) ∙ sym (append_assoc u (w ++ 34 ∷ s) (b ∷ []))) (name pl ks tp)

key_noted : {k : Mode} {ms : Members} {f : Frame} {bs : List Frame} {u w : List ℕ} (cs s : List ℕ) (m : Mode) (b n : ℕ) → Place f bs u → Keys k ms w → n ≡ values_before (fields ms) (f ∷ bs) + 0 → (x : Inside) (p : Option Piece) → TextPart x (added cs p) (s ++ b ∷ [])
    → Good ((u ++ (w ++ 34 ∷ s)) ++ b ∷ []) (carried (goes (mode.Text role.Key x) (act_of p)) (made_of m n cs (fields ms) (f ∷ bs)))
key_noted cs s m b n pl ks cnt x None tp = (key_byte s b pl ks tp, cnt)
key_noted cs s m b n pl ks cnt x (Some p) tp = (key_byte s b pl ks tp, cnt)

key_spelled : {k : Mode} {ms : Members} {f : Frame} {bs : List Frame} {u w : List ℕ} (cs s : List ℕ) (m : Mode) (i b n : ℕ) → Place f bs u → Keys k ms w → n ≡ values_before (fields ms) (f ∷ bs) + 0 → (sp : Spelling) → Grown cs s b sp
    → Good ((u ++ (w ++ 34 ∷ s)) ++ b ∷ []) (carried (noted role.Key sp i) (made_of m n cs (fields ms) (f ∷ bs)))
key_spelled cs s m i b n pl ks cnt (Some x) g = key_noted cs s m b n pl ks cnt x.at x.piece g
key_spelled cs s m i b n pl ks cnt None g = tt

-- where a key is wanted
keyed_good : {m : Mode} {ms : Members} {f : Frame} {bs : List Frame} {u w : List ℕ} (i b n : ℕ) → Place f bs u → Keys m ms w → begins m ≡ 0 → n ≡ values_before (fields ms) (f ∷ bs) + 0
    → Good ((u ++ w) ++ b ∷ []) (carried (keyed m i b) (made_of m n [] (fields ms) (f ∷ bs)))
keyed_good {m} {ms} {f} {bs} {u} {w} i b n pl ks zero cnt =
    let P : Moved → Type 0 = λ mv. Good ((u ++ w) ++ b ∷ []) (carried mv (made_of m n [] (fields ms) (f ∷ bs))) in
    cond_both (white b) _ _ P (λ h. (subst (Shape _ _ _ _) (sym (append_assoc u w (b ∷ []))) (key pl (keys_blank b h ks)), omega arith))
    (λ _. cond_both (eqb b 34) _ _ P (λ e. byte (u ++ w) b 34 e (subst (Shape _ _ _ _) (sym (append_assoc u w (34 ∷ []))) (name pl ks (between Chars.none)), cnt)) (λ _. tt))

pub stepped_good : {m : Mode} {cs : List ℕ} {f : Frame} {bs : List Frame} {u : List ℕ} (i b n : ℕ) → i ≡ length u → Shape m cs f bs u → n ≡ values_before f bs + begins m → Good (u ++ b ∷ []) (stepped i (made_of m n cs f bs) b)
stepped_good i b n at (Shape.first {f = f} {bs = bs} {u = u} {a = a} pl ba) cnt =
    let P : Moved → Type 0 = λ mv. Good ((u ++ 91 ∷ a) ++ b ∷ []) (carried mv (made_of mode.First n [] (items nil) (f ∷ bs))) in
    cond_both (eqb b 93) _ _ P
    (λ e. byte (u ++ 91 ∷ a) b 93 e (after (subst (Held _ _) (simp append_assoc) (puts pl (Value.empty_list ba))), omega (arith, put_count (Tree.list nil) pl)))
    (λ _. begun_good i b n at (within pl (Inner.first ba)) (omega arith) mode.First mode.First (λ w. (subst (Shape _ _ _ _) (sym (append_assoc u (91 ∷ a) (b ∷ []))) (Shape.first pl (Blank.more b ba w)), cnt)))
stepped_good i b n at (key {f = f} {bs = bs} {u = u} pl (Keys.first {a = a} ba)) cnt =
    let P : Moved → Type 0 = λ mv. Good ((u ++ 123 ∷ a) ++ b ∷ []) (carried mv (made_of mode.FirstKey n [] (fields none) (f ∷ bs))) in
    cond_both (eqb b 125) _ _ P
    (λ e. byte (u ++ 123 ∷ a) b 125 e (after (subst (Held _ _) (simp append_assoc) (puts pl (Value.empty_object ba))), omega (arith, put_count (Tree.object none) pl)))
    (λ _. keyed_good i b n pl (Keys.first ba) refl cnt)
stepped_good i b n at (key pl (Keys.next en ba)) cnt = keyed_good i b n pl (Keys.next en ba) refl cnt
stepped_good i b n at (name {ms = ms} {f = f} {bs = bs} {x = x} {cs = cs} {u = u} {w = w} {s = s} pl ks tp) cnt =
    let P : Moved → Type 0 = λ mv. Good ((u ++ (w ++ 34 ∷ s)) ++ b ∷ []) (carried mv (made_of (mode.Text role.Key x) n cs (fields ms) (f ∷ bs))) in
    cond_both (closing x b) _ _ P
    (λ e. let c = text_closes b tp e in byte (u ++ (w ++ 34 ∷ s)) b 34 c.1 (subst (Shape _ _ _ _) (sym (append_assoc u (w ++ 34 ∷ s) (34 ∷ []))) (colon pl ks c.0 Blank.none), cnt))
    (λ _. key_spelled cs s (mode.Text role.Key x) i b n pl ks cnt (spelled x b) (text_grows b tp))
stepped_good i b n at (colon {ms = ms} {f = f} {bs = bs} {k = k} {u = u} {w = w} {s = s} {b = c} pl ks ch bb) cnt =
    let P : Moved → Type 0 = λ mv. Good ((u ++ (w ++ 34 ∷ s ++ 34 ∷ c)) ++ b ∷ []) (carried mv (made_of mode.Colon n [] (field ms k) (f ∷ bs))) in
    cond_both (white b) _ _ P
    (λ h. (subst (Shape _ _ _ _) (ap (λ l. u ++ l) (sym (append_assoc (w ++ 34 ∷ s) (34 ∷ c) (b ∷ []))) ∙ sym (append_assoc u (w ++ 34 ∷ s ++ 34 ∷ c) (b ∷ []))) (colon pl ks ch (Blank.more b bb h)), cnt))
    (λ _. cond_both (eqb b 58) _ _ P
    (λ e. byte (u ++ (w ++ 34 ∷ s ++ 34 ∷ c)) b 58 e (subst (Shape _ _ _ _) (append-nil _ ∙ sym (append_assoc u (w ++ 34 ∷ s ++ 34 ∷ c) (58 ∷ []))) (amid (within pl (named ks ch bb Blank.none)) want), cnt))
    (λ _. tt))
stepped_good i b n at (after (Held.whole {v = v} {s = s} tx)) cnt =
    let P : Moved → Type 0 = λ mv. Good (s ++ b ∷ []) (carried mv (made_of mode.After n [] (sole v) [])) in
    cond_both (white b) _ _ P (λ w. (after (held-blank b w (Held.whole tx)), cnt)) (λ _. tt)
stepped_good i b n at (after (behind {f = f} {bs = bs} {u = u} pl (elements {ts = ts} {e = e} el))) cnt =
    let P : Moved → Type 0 = λ mv. Good ((u ++ 91 ∷ e) ++ b ∷ []) (carried mv (made_of mode.After n [] (items ts) (f ∷ bs))) in
    cond_both (white b) _ _ P (λ w. (after (held-blank b w (behind pl (elements el))), cnt))
    (λ _. cond_both (eqb b 44) _ _ P (λ q. byte (u ++ 91 ∷ e) b 44 q (subst (Shape _ _ _ _) (append-nil _ ∙ sym (append_assoc u (91 ∷ e) (44 ∷ []))) (amid (within pl (Inner.next el Blank.none)) want), cnt))
    (λ _. cond_both (eqb b 93) _ _ P (λ q. byte (u ++ 91 ∷ e) b 93 q (after (close_list pl el), omega (arith, put_count (Tree.list ts) pl))) (λ _. tt)))
stepped_good i b n at (after (behind {f = f} {bs = bs} {u = u} pl (entries {ms = ms} {e = e} en))) cnt =
    let P : Moved → Type 0 = λ mv. Good ((u ++ 123 ∷ e) ++ b ∷ []) (carried mv (made_of mode.After n [] (fields ms) (f ∷ bs))) in
    cond_both (white b) _ _ P (λ w. (after (held-blank b w (behind pl (entries en))), cnt))
    (λ _. cond_both (eqb b 44) _ _ P (λ q. byte (u ++ 123 ∷ e) b 44 q (subst (Shape _ _ _ _) (sym (append_assoc u (123 ∷ e) (44 ∷ []))) (key pl (Keys.next en Blank.none)), cnt))
    (λ _. cond_both (eqb b 125) _ _ P (λ q. byte (u ++ 123 ∷ e) b 125 q (after (close_object pl en), omega (arith, put_count (Tree.object ms) pl))) (λ _. tt)))
stepped_good i b n at (amid {f = f} {bs = bs} {u = u} pl want) cnt =
    subst (λ x. Good (x ++ b ∷ []) (carried (begun mode.Want (surroundings i (kinds f bs) n) b) (made_of mode.Want n [] f bs))) (sym (append-nil u))
    (begun_good i b n (at ∙ ap length (append-nil u)) pl (omega arith) mode.Want mode.Want (λ w. (subst (Shape _ _ _ _) (append-nil _) (amid (place-blank b w pl) want), cnt)))
stepped_good i b n at (amid pl (literal w)) cnt = word_good w i b n pl cnt
stepped_good i b n at (amid pl (number {f = g} np)) cnt = judged_good (figured g b) i b n pl np cnt (number_grows b np)
stepped_good i b n at (amid {f = f} {bs = bs} {u = u} pl (text {x = x} {cs = cs} {s = s} tp)) cnt =
    let P : Moved → Type 0 = λ mv. Good ((u ++ 34 ∷ s) ++ b ∷ []) (carried mv (made_of (mode.Text role.Value x) n cs f bs)) in
    cond_both (closing x b) _ _ P
    (λ e. let c = text_closes b tp e in byte (u ++ 34 ∷ s) b 34 c.1 (last (34 ∷ s) 34 pl refl (Value.string c.0), omega (arith, put_count (Tree.text cs) pl)))
    (λ _. value-spelled cs s (mode.Text role.Value x) i b n pl cnt (spelled x b) (text_grows b tp))
