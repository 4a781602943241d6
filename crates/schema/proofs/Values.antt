-- What the entries of a schema mean: a value's members and items are those of its entry.
use Rattle.std.proofs.Common.{◌≡◌, ℕ, zero, suc, ◌+◌, ◌-◌, ◌<◌, ◌≤◌, min, List, ◌∷◌, map as each, length, get_or, take, drop, Some, None, Option, sym, refl, ap, ◌∙◌, ⊎_elim, arith, drop-cons}
use Rattle.json_values.specs.Meaning.{Row, no_row, no_entry, children, items_of, list_of, map_of, meaning, members_of, rows_of}
use Rattle.json_values.specs.declared.table.Cell.{Cell}
use Rattle.json_values.specs.declared.table.Cell.TheVariants as cell
use Rattle.json_values.specs.declared.table.Entry.{Entry}
use Rattle.json_values.specs.declared.table.Span.{Span}
use Rattle.json_values.proofs.Entries.{children_are, row_is, value_is}
use Rattle.json_values.proofs.Rows.{rows_of-length}
use Rattle.schema.specs.Entries.{below, cell_in, elements_at, key_in, members_at, numbers_in, value_in}
use Rattle.schema.specs.Parts.{elements, members}
use Rattle.std.proofs.lemmas.Bool.{cases_lt}
use Rattle.std.proofs.lemmas.List.{get_or_past}
use Rattle.std.specs.List.{range_with_len}
use Rattle.std.specs.Option.{option_map}

module _ (t : List ℕ) (es : List Entry) where
  -- what the entries mean
  abbrev pub rows : List Row
  rows = rows_of (λ _. t) es

  -- an entry past the table is null
  past_null : (i : ℕ) → length es ≤ i → cell_in es i ≡ cell.Null
  past_null i le = ap (λ (e : Entry). e.cell) (get_or_past es i no_entry le)

  -- a value is what its cell means; past the table it is null
  pub cell_value : (i : ℕ) → value_in t es i ≡ meaning (λ _. t) (take i rows) (cell_in es i)
  cell_value i = ⊎_elim (λ (lt : i < length es). value_is (λ _. t) es i lt) past (cases_lt i (length es))
    where
      past : length es ≤ i → value_in t es i ≡ meaning (λ _. t) (take i rows) (cell_in es i)
      past le =
          let long : length rows ≤ i = omega (arith, rows_of-length (λ _. t) es) in
          ap (λ (x : Row). x.value) (get_or_past rows i no_row long) ∙ sym (ap (meaning (λ _. t) (take i rows)) (past_null i le))

  -- a row has the key and the value of its entry
  pub row_value : (i : ℕ) → i < length es → get_or rows i no_row ≡ record { key = key_in t es i; value = value_in t es i }
  row_value i lt =
      let r = row_is (λ _. t) es i lt in
      let k : (get_or rows i no_row).key ≡ key_in t es i = ap (λ (x : Row). x.key) r in
      cc

  -- the rows of so many entries
  unfoldable pub row_at : ℕ → Row
  row_at i = record { key = key_in t es i; value = value_in t es i }

  rows_run : (first n : ℕ) → first + n ≤ length es → take n (drop first rows) ≡ each row_at (range_with_len first n)
  unfolding row_at
  rows_run first zero h = refl
  rows_run first (suc n) h =
      let lt : first < length es = omega arith in
      let in_rows : first < length rows = omega (arith, rows_of-length (λ _. t) es) in
      ap (take (suc n)) (drop-cons rows first no_row in_rows) ∙ ap2 (row_value first lt) (ap (λ m. take n (drop m rows)) one ∙ rows_run (first + 1) n (omega arith))
    where
      one : suc first ≡ first + 1
      one = omega arith

      ap2 : {x y : Row} {xs ys : List Row} → x ≡ y → xs ≡ ys → x ∷ xs ≡ y ∷ ys
      ap2 p q = cc

  -- the children of an entry in the table
  children-run : (i : ℕ) (sp : Span) → i ≤ length es → children (take i rows) sp ≡ each row_at (numbers_in (below i sp))
  children-run i sp le =
      let long : i ≤ length rows = omega (arith, rows_of-length (λ _. t) es) in
      let inside : min sp.first i + (min (sp.first + sp.count) i - min sp.first i) ≤ length es = omega arith in
      children_are rows sp i long ∙ rows_run (min sp.first i) (min (sp.first + sp.count) i - min sp.first i) inside

  -- what is made of the children of an entry, where its cell has children
  made : {A : Type 0} (f : List Row → A) (span : Cell → Option Span) → span cell.Null ≡ None → (i : ℕ) → option_map (λ sp. f (children (take i rows) sp)) (span (cell_in es i)) ≡ option_map (λ sp. f (each row_at (numbers_in sp))) (option_map (below i) (span (cell_in es i)))
  made {A} f span none i = ⊎_elim inside past (cases_lt i (length es))
    where
      found : i ≤ length es → (o : Option Span) → option_map (λ sp. f (children (take i rows) sp)) o ≡ option_map (λ sp. f (each row_at (numbers_in sp))) (option_map (below i) o)
      found le None = refl
      found le (Some sp) = ap (λ rs. Some (f rs)) (children-run i sp le)

      inside : i < length es → option_map (λ sp. f (children (take i rows) sp)) (span (cell_in es i)) ≡ option_map (λ sp. f (each row_at (numbers_in sp))) (option_map (below i) (span (cell_in es i)))
      inside lt = found (omega arith) (span (cell_in es i))

      past : length es ≤ i → option_map (λ sp. f (children (take i rows) sp)) (span (cell_in es i)) ≡ option_map (λ sp. f (each row_at (numbers_in sp))) (option_map (below i) (span (cell_in es i)))
      past le =
          let o : span (cell_in es i) ≡ None = ap span (past_null i le) ∙ none in
          ap (option_map (λ sp. f (children (take i rows) sp))) o ∙ sym (ap (λ m. option_map (λ sp. f (each row_at (numbers_in sp))) (option_map (below i) m)) o)

  members_cells : (rs : List Row) (x : Cell) → members (meaning (λ _. t) rs x) ≡ option_map (λ sp. members_of (children rs sp)) (map_of x)
  members_cells rs cell.Null = refl
  members_cells rs (cell.Bool b) = refl
  members_cells rs (cell.Int z) = refl
  members_cells rs (cell.Uint n) = refl
  members_cells rs (cell.Text p) = refl
  members_cells rs (cell.List sp) = refl
  members_cells rs (cell.Map sp) = refl

  elements_cells : (rs : List Row) (x : Cell) → elements (meaning (λ _. t) rs x) ≡ option_map (λ sp. items_of (children rs sp)) (list_of x)
  elements_cells rs cell.Null = refl
  elements_cells rs (cell.Bool b) = refl
  elements_cells rs (cell.Int z) = refl
  elements_cells rs (cell.Uint n) = refl
  elements_cells rs (cell.Text p) = refl
  elements_cells rs (cell.List sp) = refl
  elements_cells rs (cell.Map sp) = refl

  -- the members and the items of a value, by its entries
  pub members_mean : (i : ℕ) → members (value_in t es i) ≡ option_map (λ sp. members_of (each row_at (numbers_in sp))) (members_at es i)
  members_mean i = ap members (cell_value i) ∙ members_cells (take i rows) (cell_in es i) ∙ made members_of map_of refl i

  pub elements_mean : (i : ℕ) → elements (value_in t es i) ≡ option_map (λ sp. items_of (each row_at (numbers_in sp))) (elements_at es i)
  elements_mean i = ap elements (cell_value i) ∙ elements_cells (take i rows) (cell_in es i) ∙ made items_of list_of refl i
