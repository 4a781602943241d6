-- The rows of a table: each by those below it, and stable as the table and the texts grow.
use Rattle.std.proofs.Common.{◌≡◌, ℕ, ◌+◌, ◌<◌, ◌≤◌, List, [], ◌∷◌, ◌++◌, length, get_or, take, drop, sym, refl, ap, ◌∙◌, add-zero, zero-add, arith}
use Rattle.std.proofs.lemmas.List.{take-append-le, drop-append-le, take-take, take_all, take_at, get_or-take, length_push, length-drop}
use Rattle.json_values.specs.declared.parts.Part.{Part}
use Rattle.json_values.specs.declared.parts.Source.{Source}
use Rattle.json_values.specs.declared.table.Entry.{Entry}
use Rattle.json_values.specs.declared.table.Cell.{Cell}
use Rattle.json_values.specs.declared.table.Cell.TheVariants as cell
use Rattle.json_values.specs.Value.{text}
use Rattle.json_values.specs.Meaning.{Row, no_row, part_of, meaning, row_of, rows_from, rows_of}
use Rattle.json_values.specs.Laws.{Inside, CellInside, AllInside, Grown, MeaningsStay}

module _ (s : Source → List ℕ) where
  -- what is there stays
  pub prefix : (rows : List Row) (es : List Entry) → take (length rows) (rows_from s rows es) ≡ rows
  unfolding rows_from
  prefix rows [] = take_all (length rows) rows (omega arith)
  prefix rows (e ∷ es) =
      let next : List Row = rows ++ row_of s rows e ∷ [] in
      let ih = prefix next es in
      let le : length rows ≤ length next = omega (arith, length_push rows (row_of s rows e)) in
      sym (take-take (length rows) (length next) (rows_from s next es) le) ∙ (ap (take (length rows)) ih ∙ take_at rows (row_of s rows e ∷ []) (length rows) refl)

  pub rows_length : (rows : List Row) (es : List Entry) → length (rows_from s rows es) ≡ length rows + length es
  unfolding rows_from
  rows_length rows [] = sym (add-zero (length rows))
  rows_length rows (e ∷ es) =
      omega (arith, rows_length (rows ++ row_of s rows e ∷ []) es, length_push rows (row_of s rows e))

  pub rows_append : (rows : List Row) (es fs : List Entry) → rows_from s rows (es ++ fs) ≡ rows_from s (rows_from s rows es) fs
  unfolding rows_from
  rows_append rows [] fs = refl
  rows_append rows (e ∷ es) fs = rows_append (rows ++ row_of s rows e ∷ []) es fs

  pub rows_of-length : (t : List Entry) → length (rows_of s t) ≡ length t
  unfolding rows_of
  rows_of-length t = rows_length [] t ∙ zero-add (length t)

  pub rows_of_append : (t more : List Entry) → rows_of s (t ++ more) ≡ rows_from s (rows_of s t) more
  unfolding rows_of
  rows_of_append t more = rows_append [] t more

  -- growth changes no row
  pub rows_stay : (t more : List Entry) → take (length t) (rows_of s (t ++ more)) ≡ rows_of s t
  rows_stay t more =
      ap (λ n. take n (rows_of s (t ++ more))) (sym (rows_of-length t)) ∙ (ap (take (length (rows_of s t))) (rows_of_append t more) ∙ prefix (rows_of s t) more)

  pub row_stays : (t more : List Entry) (i : ℕ) (d : Row) → i < length t → get_or (rows_of s (t ++ more)) i d ≡ get_or (rows_of s t) i d
  row_stays t more i d h = sym (get_or-take (length t) (rows_of s (t ++ more)) i d h) ∙ ap (λ (xs : List Row). get_or xs i d) (rows_stay t more)

  pub rows_push : (t : List Entry) (e : Entry) → rows_of s (t ++ e ∷ []) ≡ rows_of s t ++ row_of s (rows_of s t) e ∷ []
  unfolding rows_from
  rows_push t e = rows_of_append t (e ∷ [])

-- ---- more text

module _ (before after : Source → List ℕ) (grown : Grown before after) where
  pub part_stays : (p : Part) → Inside before p → part_of after p ≡ part_of before p
  part_stays p h =
      let w = before p.source in
      let m = (grown p.source).0 in
      let le : p.start ≤ length w = omega arith in
      let long : p.len ≤ length (drop p.start w) = omega (arith, length-drop p.start w) in
      ap (λ (z : List ℕ). take p.len (drop p.start z)) (grown p.source).1
      ∙ (ap (take p.len) (drop-append-le p.start w m le) ∙ take-append-le p.len (drop p.start w) m long)

  meaning_stays : (rows : List Row) (x : Cell) → CellInside before x → meaning after rows x ≡ meaning before rows x
  meaning_stays rows cell.Null h = refl
  meaning_stays rows (cell.Bool b) h = refl
  meaning_stays rows (cell.Int z) h = refl
  meaning_stays rows (cell.Uint n) h = refl
  meaning_stays rows (cell.Text p) h = ap text (part_stays p h)
  meaning_stays rows (cell.List sp) h = refl
  meaning_stays rows (cell.Map sp) h = refl

  rows_grow : (rows : List Row) (es : List Entry) → AllInside before es → rows_from after rows es ≡ rows_from before rows es
  unfolding rows_from
  rows_grow rows [] h = refl
  rows_grow rows (e ∷ es) h =
      let k = part_stays e.key h.0.0 in
      let v = meaning_stays rows e.cell h.0.1 in
      let row : row_of after rows e ≡ row_of before rows e = cc in
      ap (λ r. rows_from after (rows ++ r ∷ []) es) row ∙ rows_grow (rows ++ row_of before rows e ∷ []) es h.1

  pub rows_of-grown : (es : List Entry) → AllInside before es → rows_of after es ≡ rows_of before es
  unfolding rows_of
  rows_of-grown es h = rows_grow [] es h

pub meanings_stay : MeaningsStay
meanings_stay = record {
  table_grows = λ s t more i h. ap (λ (r : Row). r.value) (row_stays s t more i no_row h);
  texts_grow = λ before after t g h i. ap (λ (rs : List Row). (get_or rs i no_row).value) (rows_of-grown before after g t h);
}
