-- What a longer arena changes: nothing of the rows within the old one.
use Rattle.std.proofs.Common.{◌≡◌, ℕ, ◌+◌, ◌≤◌, true, All, List, [], ◌∷◌, ◌++◌, map, length, take, drop, sym, refl, subst, ap, ◌∙◌, arith}
use Rattle.std.specs.Borrow.{Bor}
use Rattle.std.specs.Option.{IfSome}
use Rattle.std.proofs.lemmas.Bool.{cond-true}
use Rattle.std.proofs.lemmas.List.{length-append, length-drop, drop-append-le, take-append-le, drop_at, take_at, append_assoc, append-nil, map_push}
use Rattle.std.proofs.lemmas.List.Elements.{All-head, All-tail, All-push, All-weaker, filter-append}
use Rattle.fixed.specs.declared.slice.Slice.{Slice}
use Rattle.rule_host.specs.Books.{Kept, RowWithin, Within, rows_in}
use Rattle.rule_host.specs.Outcomes.{outcome_map, text_of}
use Rattle.rule_host.specs.Rows.{BookRow, given, has_space, is_short, offered, present, row_bytes, rows_bytes, text_in, with_row}
use Rattle.rule_host.specs.Stored.{bytes_at, stored_at}
use Rattle.rule_host.specs.declared.answer.Outcome.{Outcome}
use Rattle.rule_host.specs.declared.answer.Outcome.TheVariants.{True, False, Text, Other, Undeclared, Failure}
use Rattle.rule_host.specs.declared.book.Book.TheInside.{Inside}
use Rattle.rule_host.specs.declared.row.Row.{Row}

-- ---- what lies within the old arena

module _ (a b : List ℕ) where
  bytes_kept : (s : Slice) → Within (length a) s → bytes_at (a ++ b) s ≡ bytes_at a s
  bytes_kept s h =
      ap (take s.len) (drop-append-le s.start a b (omega arith))
      ∙ take-append-le s.len (drop s.start a) b (omega (arith, length-drop s.start a))

  outcome_kept : (v : Outcome Slice) → IfSome (text_of v) (Within (length a)) → outcome_map (bytes_at (a ++ b)) v ≡ outcome_map (bytes_at a) v
  outcome_kept True h = refl
  outcome_kept False h = refl
  outcome_kept (Text s) h = ap Text (bytes_kept s h)
  outcome_kept Other h = refl
  outcome_kept (Undeclared s) h = ap Undeclared (bytes_kept s h)
  outcome_kept (Failure s) h = ap Failure (bytes_kept s h)

  row_kept : (x : Row Slice) → RowWithin (length a) x → stored_at (a ++ b) x ≡ stored_at a x
  row_kept x h = λ i. record {
    expression = bytes_kept x.expression h.0 i;
    marked = x.marked;
    image = bytes_kept x.image h.1 i;
    outcome = outcome_kept x.outcome h.2 i;
  }

  rows_kept : (xs : List (Row Slice)) → All (RowWithin (length a)) xs → map (stored_at (a ++ b)) xs ≡ map (stored_at a) xs
  rows_kept [] h = refl
  rows_kept (x ∷ xs) h =
      λ i. row_kept x (All-head (RowWithin (length a)) x xs h) i ∷ rows_kept xs (All-tail (RowWithin (length a)) x xs h) i

-- ---- and lies within a longer one

module _ (n k : ℕ) (l : n ≤ k) where
  outcome-longer : (v : Outcome Slice) → IfSome (text_of v) (Within n) → IfSome (text_of v) (Within k)
  outcome-longer True h = tt
  outcome-longer False h = tt
  outcome-longer (Text s) h = omega arith
  outcome-longer Other h = tt
  outcome-longer (Undeclared s) h = omega arith
  outcome-longer (Failure s) h = omega arith

  row-longer : (x : Row Slice) → RowWithin n x → RowWithin k x
  row-longer x h = (omega (arith, h.0), omega (arith, h.1), outcome-longer x.outcome h.2)

-- ---- what is new

bytes_new : (a t b : List ℕ) (s : Slice) → s.start ≡ length a → s.len ≡ length t → bytes_at (a ++ (t ++ b)) s ≡ t
bytes_new a t b s p q = ap (take s.len) (drop_at a (t ++ b) s.start (sym p)) ∙ take_at t b s.len (sym q)

-- an outcome that is given, with one slice for its text
text_new : (f : Slice → List ℕ) (s : Slice) (v : Outcome (Bor (List ℕ))) → f s ≡ text_in (outcome_map (λ t. t.now) v) → outcome_map f (outcome_map (λ _. s) v) ≡ outcome_map (λ t. t.now) v
text_new f s True h = refl
text_new f s False h = refl
text_new f s (Text t) h = ap Text h
text_new f s Other h = refl
text_new f s (Undeclared t) h = ap Undeclared h
text_new f s (Failure t) h = ap Failure h

text_within : (n : ℕ) (s : Slice) (v : Outcome (Bor (List ℕ))) → Within n s → IfSome (text_of (outcome_map (λ _. s) v)) (Within n)
text_within n s True h = tt
text_within n s False h = tt
text_within n s (Text t) h = h
text_within n s Other h = tt
text_within n s (Undeclared t) h = h
text_within n s (Failure t) h = h

pub rows_bytes_push : (rs : List BookRow) (r : BookRow) → rows_bytes (rs ++ r ∷ []) ≡ rows_bytes rs + row_bytes r
rows_bytes_push [] r = omega arith
rows_bytes_push (s ∷ rs) r = omega (arith, rows_bytes_push rs r)

present_push : (rs : List BookRow) (r : BookRow) → is_short r.outcome ≡ true → present rs ≡ rs → present (rs ++ r ∷ []) ≡ rs ++ r ∷ []
present_push rs r h k =
    filter-append (λ s. is_short s.outcome) rs (r ∷ [])
    ∙ (λ i. k i ++ cond-true _ (r ∷ []) [] h i)

-- ---- one more row

-- the rows of a book after it
pub record Added (b c : Inside) (r : BookRow) : Type 0 where
  pub is : rows_in c ≡ rows_in b ++ r ∷ []
  pub kept : Kept c

-- three texts were written behind the arena, and a row of their places was put at the end
pub added : (b : Inside) (r : Row (Bor (List ℕ))) (x : Row Slice) (s : Slice) → Kept b → is_short (given r).outcome ≡ true
    → (x.expression.start ≡ length b.arena) × (x.expression.len ≡ length r.expression.now) → x.marked ≡ r.marked
    → (x.image.start ≡ length (b.arena ++ r.expression.now)) × (x.image.len ≡ length r.image.now)
    → (s.start ≡ length ((b.arena ++ r.expression.now) ++ r.image.now)) × (s.len ≡ length (text_in (given r).outcome))
    → x.outcome ≡ outcome_map (λ _. s) r.outcome
    → Added b (record { arena = ((b.arena ++ r.expression.now) ++ r.image.now) ++ text_in (given r).outcome; rows = b.rows ++ x ∷ [] }) (given r)
added b r x s h short e m i t o =
    let a = b.arena in
    let one = a ++ r.expression.now in
    let two = one ++ r.image.now in
    let text = text_in (given r).outcome in
    let whole = two ++ text in
    let n1 = length-append a r.expression.now in
    let n2 = length-append one r.image.now in
    let n3 = length-append two text in
    let by_one : whole ≡ one ++ (r.image.now ++ text) = append_assoc one r.image.now text in
    let by_none : whole ≡ a ++ (r.expression.now ++ (r.image.now ++ text)) = by_one ∙ append_assoc a r.expression.now (r.image.now ++ text) in
    let by_two : whole ≡ two ++ (text ++ []) = ap (λ (l : List ℕ). two ++ l) (sym (append-nil text)) in
    let e-is = ap (λ (l : List ℕ). bytes_at l x.expression) by_none ∙ bytes_new a r.expression.now (r.image.now ++ text) x.expression e.0 e.1 in
    let i-is = ap (λ (l : List ℕ). bytes_at l x.image) by_one ∙ bytes_new one r.image.now text x.image i.0 i.1 in
    let s-is = ap (λ (l : List ℕ). bytes_at l s) by_two ∙ bytes_new two text [] s t.0 t.1 in
    let o-is = ap (outcome_map (bytes_at whole)) o ∙ text_new (bytes_at whole) s r.outcome s-is in
    let new : stored_at whole x ≡ given r = λ k. record { expression = e-is k; marked = m k; image = i-is k; outcome = o-is k } in
    let old = ap (λ (l : List ℕ). map (stored_at l) b.rows) by_none ∙ rows_kept a (r.expression.now ++ (r.image.now ++ text)) b.rows h.within in
    let is : map (stored_at whole) (b.rows ++ x ∷ []) ≡ rows_in b ++ given r ∷ [] = map_push (stored_at whole) b.rows x ∙ (λ k. old k ++ new k ∷ []) in
    let P : Outcome Slice → Type 0 = λ v. IfSome (text_of v) (Within (length whole)) in
    let o-in = subst P (sym o) (text_within (length whole) s r.outcome (omega (arith, t.0, t.1, n3))) in
    let x-in : RowWithin (length whole) x = (omega (arith, e.0, e.1, n1, n2, n3), omega (arith, i.0, i.1, n2, n3), o-in) in
    let more = row-longer (length a) (length whole) (omega (arith, n1, n2, n3)) in
    record {
      is = is;
      kept = record {
        within = All-push (RowWithin (length whole)) b.rows x (All-weaker (RowWithin (length a)) (RowWithin (length whole)) more b.rows h.within) x-in;
        short = ap present is ∙ present_push (rows_in b) (given r) short h.short ∙ sym is;
        filled = ap rows_bytes is ∙ omega (arith, rows_bytes_push (rows_in b) (given r), h.filled, n1, n2, n3);
      };
    }

-- a row is taken where its text is short and there is room
pub offered-taken : (rs : List BookRow) (r : BookRow) → is_short r.outcome ≡ true → has_space rs (row_bytes r) ≡ true → offered rs r ≡ (true, rs ++ r ∷ [])
offered-taken rs r h k = cond-true _ _ _ h ∙ ap (with_row rs r) k
