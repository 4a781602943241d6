-- What an entry of a table means, by those below it; and where values are ordered, the keys of a map's entries ascend.
use Rattle.std.proofs.Common.{◌≡◌, ℕ, zero, suc, ◌+◌, ◌-◌, ◌<◌, ◌≤◌, min, List, [], ◌∷◌, ◌++◌, length, get_or, take, drop, Less, sym, ap, ◌∙◌, ⊎_elim, append_assoc, arith, drop_of_length-le}
use Rattle.std.proofs.Math.Seq.{take-nil}
use Rattle.std.proofs.lemmas.List.{take_min, take_more, take-take, take-append-drop, get_or-take, get_or-drop, get_or_at, drop-take, length-take, length-take-le, length-drop}
use Rattle.std.proofs.lemmas.Bool.{cases_lt}
use Rattle.order.specs.Bytes.{compare_bytes}
use Rattle.json_values.specs.declared.parts.Source.{Source}
use Rattle.json_values.specs.declared.table.Entry.{Entry}
use Rattle.json_values.specs.declared.table.Span.{Span}
use Rattle.json_values.specs.Meaning.{Row, no_row, no_entry, Ascending, children, key_at, meaning, members_of, row_of, rows_of, value_at}
use Rattle.json_values.specs.Ordered.{Before, OrderedMembers}
use Rattle.json_values.proofs.Rows.{rows_of-length, rows_push, rows_stay}

module _ (s : Source → List ℕ) (t : List Entry) (i : ℕ) (h : i < length t) where
  e : Entry
  e = get_or t i no_entry

  split : t ≡ take i t ++ (e ∷ drop (i + 1) t)
  unfolding e
  split = sym (sym (append_assoc (take i t) (get_or t i no_entry ∷ []) (drop (i + 1) t)) ∙ (ap (λ p. p ++ drop (i + 1) t) (sym (take_more t i no_entry h)) ∙ take-append-drop (i + 1) t))

  long : length (take i t) ≡ i
  long = length-take-le i t (omega arith)

  pub rows_below : rows_of s (take i t) ≡ take i (rows_of s t)
  rows_below = sym (ap (λ z. take i (rows_of s z)) split ∙ (ap (λ n. take n (rows_of s (take i t ++ (e ∷ drop (i + 1) t)))) (sym long) ∙ rows_stay s (take i t) (e ∷ drop (i + 1) t)))

  upto : rows_of s (take (i + 1) t) ≡ take (i + 1) (rows_of s t)
  upto =
      let n : length (take (i + 1) t) ≡ i + 1 = length-take-le (i + 1) t (omega arith) in
      let whole : take (i + 1) t ++ drop (i + 1) t ≡ t = take-append-drop (i + 1) t in
      sym (ap (λ z. take (i + 1) (rows_of s z)) (sym whole) ∙ (ap (λ m. take m (rows_of s (take (i + 1) t ++ drop (i + 1) t))) (sym n) ∙ rows_stay s (take (i + 1) t) (drop (i + 1) t)))

  pub row_is : get_or (rows_of s t) i no_row ≡ row_of s (take i (rows_of s t)) (get_or t i no_entry)
  row_is =
      let x = get_or t i no_entry in
      let n : length (rows_of s (take i t)) ≡ i = rows_of-length s (take i t) ∙ length-take-le i t (omega arith) in
      let lt : i < i + 1 = omega arith in
      let here : get_or (rows_of s (take (i + 1) t)) i no_row ≡ row_of s (rows_of s (take i t)) x = ap (λ z. get_or (rows_of s z) i no_row) (take_more t i no_entry h) ∙ (ap (λ z. get_or z i no_row) (rows_push s (take i t) x) ∙ get_or_at (rows_of s (take i t)) (row_of s (rows_of s (take i t)) x) [] no_row i n) in
      sym (get_or-take (i + 1) (rows_of s t) i no_row lt) ∙ (ap (λ z. get_or z i no_row) (sym upto) ∙ (here ∙ ap (λ z. row_of s z x) rows_below))

  pub value_is : value_at s t i ≡ meaning s (take i (rows_of s t)) (get_or t i no_entry).cell
  value_is = ap (λ (r : Row). r.value) row_is

  pub key_is : (get_or (rows_of s t) i no_row).key ≡ key_at s t i
  key_is = ap (λ (r : Row). r.key) row_is

-- ---- children, by their numbers

-- the children of the entry k, by their numbers
pub children_are : (rows : List Row) (sp : Span) (k : ℕ) → k ≤ length rows → children (take k rows) sp ≡ take (min (sp.first + sp.count) k - min sp.first k) (drop (min sp.first k) rows)
children_are rows sp k h = ⊎_elim
    (λ (lt : sp.first < k).
    let rest : drop sp.first (take k rows) ≡ take (k - sp.first) (drop sp.first rows) = ap (λ n. drop sp.first (take n rows)) (omega arith) ∙ drop-take sp.first (k - sp.first) rows in
    let f : min sp.first k ≡ sp.first = omega arith in
    let long : length (take (k - sp.first) (drop sp.first rows)) ≡ k - sp.first = omega (arith, length-take (k - sp.first) (drop sp.first rows), length-drop sp.first rows) in
    let n : min sp.count (length (take (k - sp.first) (drop sp.first rows))) ≡ min (sp.first + sp.count) k - sp.first = omega (arith, long) in
    ap (take sp.count) rest
    ∙ sym (take_min sp.count (take (k - sp.first) (drop sp.first rows)))
    ∙ rw (n, f) (take-take (min (sp.first + sp.count) k - sp.first) (k - sp.first) (drop sp.first rows) (omega arith)))
    (λ (le : k ≤ sp.first).
    let none : drop sp.first (take k rows) ≡ [] = drop_of_length-le (take k rows) (omega (arith, length-take-le k rows h)) in
    let z : min (sp.first + sp.count) k - min sp.first k ≡ 0 = omega arith in
    rw (none, z) (take-nil sp.count))
    (cases_lt sp.first k)

-- a child is what its entry means by those below it
module _ (s : Source → List ℕ) (t : List Entry) (sp : Span) where
  pub children-length : length (children (rows_of s t) sp) ≡ length (children t sp)
  children-length = omega (arith, length-take sp.count (drop sp.first (rows_of s t)), length-drop sp.first (rows_of s t), rows_of-length s t, length-take sp.count (drop sp.first t), length-drop sp.first t)

  pub child_is : (i : ℕ) → i < length (children t sp) → get_or (children (rows_of s t) sp) i no_row ≡ row_of s (rows_of s (take (sp.first + i) t)) (get_or (children t sp) i no_entry)
  child_is i lt =
      let few : i < sp.count = omega (arith, length-take sp.count (drop sp.first t)) in
      let inside : sp.first + i < length t = omega (arith, length-take sp.count (drop sp.first t), length-drop sp.first t) in
      get_or-take sp.count (drop sp.first (rows_of s t)) i no_row few ∙ get_or-drop sp.first (rows_of s t) i no_row
      ∙ row_is s t (sp.first + i) inside
      ∙ ap (λ rows. row_of s rows (get_or t (sp.first + i) no_entry)) (sym (rows_below s t (sp.first + i) inside))
      ∙ ap (row_of s (rows_of s (take (sp.first + i) t))) (sym (get_or-take sp.count (drop sp.first t) i no_entry few ∙ get_or-drop sp.first t i no_entry))

-- ---- keys that ascend

pub before_at : (k : List ℕ) (rows : List Row) → Before k (members_of rows) → (j : ℕ) → j < length rows → compare_bytes k (get_or rows j no_row).key ≡ Less
before_at k [] h j lt = absurd (omega arith)
before_at k (r ∷ rows) h zero lt = h.0
before_at k (r ∷ rows) h (suc j) lt = before_at k rows h.1 j (omega arith)

-- the members of an ordered map, by their places
pub keys_ascend : (rows : List Row) → OrderedMembers (members_of rows) → (i j : ℕ) → i < j → j < length rows → compare_bytes (get_or rows i no_row).key (get_or rows j no_row).key ≡ Less
keys_ascend [] h i j l m = absurd (omega arith)
keys_ascend (r ∷ rows) h i zero l m = absurd (omega arith)
keys_ascend (r ∷ rows) h zero (suc j) l m = before_at r.key rows h.0 j (omega arith)
keys_ascend (r ∷ rows) h (suc i) (suc j) l m = keys_ascend rows h.1.1 i j (omega arith) (omega arith)

-- where the members of a span are those of an ordered map, its keys ascend
module _ (s : Source → List ℕ) (t : List Entry) (sp : Span) where
  child_key : (i : ℕ) → sp.first ≤ i → i < sp.first + sp.count → i < length t → (get_or (children (rows_of s t) sp) (i - sp.first) no_row).key ≡ key_at s t i
  child_key i from to inside =
      let at : sp.first + (i - sp.first) ≡ i = omega arith in
      let lt : i - sp.first < sp.count = omega arith in
      ap (λ (r : Row). r.key) (get_or-take sp.count (drop sp.first (rows_of s t)) (i - sp.first) no_row lt ∙ (get_or-drop sp.first (rows_of s t) (i - sp.first) no_row ∙ ap (λ n. get_or (rows_of s t) n no_row) at))
      ∙ key_is s t i inside

  pub ascends : OrderedMembers (members_of (children (rows_of s t) sp)) → Ascending s t sp
  ascends h i j wi wj lt =
      let long : j - sp.first < length (children (rows_of s t) sp) =
      omega (arith, length-take sp.count (drop sp.first (rows_of s t)), length-drop sp.first (rows_of s t), rows_of-length s t) in
      ap (λ (k : List ℕ). compare_bytes k (key_at s t j)) (sym (child_key i wi.0 wi.1 wi.2))
      ∙ (ap (compare_bytes (get_or (children (rows_of s t) sp) (i - sp.first) no_row).key) (sym (child_key j wj.0 wj.1 wj.2))
      ∙ keys_ascend (children (rows_of s t) sp) h (i - sp.first) (j - sp.first) (omega arith) long)
