-- What a child of a container adds to the text.
use Rattle.std.proofs.Common.{◌≡◌, ℕ, ◌+◌, ◌<◌, ◌≤◌, List, ◌++◌, length, get_or, take, codes, Some, None, unwrap_or, inl, inr, sym, ap, ◌∙◌, arith}
use Rattle.std.specs.List.{slice_get}
use Rattle.std.proofs.lemmas.List.{take_all}
use Rattle.std.proofs.lemmas.Option.{get_or_from_slice_get, slice_get_cases, slice_get_past, slice_get_within, unwrap_or-slice_get}
use Rattle.json_values.specs.Meaning.{Row, no_entry, no_row, children, items_of, members_of, part_of, meaning, row_of, rows_of}
use Rattle.json_values.specs.Texts.{meant, rows_in, texts_of, viewed}
use Rattle.json_values.specs.declared.table.Entry.{Entry}
use Rattle.json_values.specs.declared.table.Span.{Span}
use Rattle.json_values.specs.declared.view.View.{View}
use Rattle.json_values.proofs.Entries.{child_is, children-length, rows_below, value_is}
use Rattle.json_values.proofs.Rows.{rows_of-length}
use Rattle.json_writer.specs.Compact.{comma_at, compact, items_text, members_text, named}
use Rattle.json_writer.proofs.Runs.{items_more, members_more}

-- the text of the entry k, by what stands at k
module _ (view : View) (k : ℕ) where
  pub entry_text : (under : View) (e : Entry) → slice_get view.entries.now k ≡ Some e → under.stores ≡ view.stores → under.entries.now ≡ take k view.entries.now → compact (meant under e.cell) ≡ compact (viewed view k)
  entry_text under e at stores below =
      let lt = slice_get_within view.entries.now k e at in
      let texts = texts_of view.stores in
      ap (λ st. compact (meaning (texts_of st) (rows_of (texts_of st) under.entries.now) e.cell)) stores
      ∙ ap (λ es. compact (meaning texts (rows_of texts es) e.cell)) below
      ∙ ap (λ rows. compact (meaning texts rows e.cell)) (rows_below texts view.entries.now k lt)
      ∙ ap (λ (x : Entry). compact (meaning texts (take k (rows_in view)) x.cell)) (sym (get_or_from_slice_get view.entries.now k e no_entry at))
      ∙ sym (ap compact (value_is texts view.entries.now k lt))

  pub none_text : slice_get view.entries.now k ≡ None → codes "null" ≡ compact (viewed view k)
  unfolding compact
  none_text none =
      let past : length view.entries.now ≤ k = elim (slice_get_cases view.entries.now k).1 [ inl here ↦ grind (arith, here.2, none) | inr over ↦ over.0 ] in
      let over : slice_get (rows_in view) k ≡ None = slice_get_past (rows_in view) k (omega (arith, rows_of-length (texts_of view.stores) view.entries.now)) in
      ap (λ (r : Row). compact r.value) (sym (ap (λ o. unwrap_or o no_row) over) ∙ unwrap_or-slice_get (rows_in view) k no_row)

-- the i-th child, over the view of what stands below it
module _ (view under : View) (sp : Span) (i : ℕ) (members : List Entry) (child : Entry) (o : List ℕ) (is : members ≡ children view.entries.now sp) (lt : i < length members) (stores : under.stores ≡ view.stores) (below : under.entries.now ≡ take (sp.first + i) view.entries.now) (at : child ≡ get_or members i no_entry) where
  inside : i < length (children (rows_in view) sp)
  inside = omega (arith, ap length is, children-length (texts_of view.stores) view.entries.now sp)

  row : get_or (children (rows_in view) sp) i no_row ≡ row_of (texts_of under.stores) (rows_in under) child
  row =
      child_is (texts_of view.stores) view.entries.now sp i (omega (arith, ap length is))
      ∙ ap (λ st. row_of (texts_of st) (rows_of (texts_of st) (take (sp.first + i) view.entries.now)) (get_or (children view.entries.now sp) i no_entry)) (sym stores)
      ∙ ap (λ es. row_of (texts_of under.stores) (rows_of (texts_of under.stores) es) (get_or (children view.entries.now sp) i no_entry)) (sym below)
      ∙ ap (row_of (texts_of under.stores) (rows_in under)) (sym (at ∙ ap (λ m. get_or m i no_entry) is))

  pub items_step : {a b c : List ℕ} → a ≡ o ++ items_text (items_of (take i (children (rows_in view) sp))) → b ≡ a ++ comma_at i → c ≡ b ++ compact (meant under child.cell) → c ≡ o ++ items_text (items_of (take (i + 1) (children (rows_in view) sp)))
  items_step {b = b} p q r = items_more o (children (rows_in view) sp) i inside p q (r ∙ ap (λ (x : Row). b ++ compact x.value) (sym row))

  pub members_step : {a b c d : List ℕ} → a ≡ o ++ members_text (members_of (take i (children (rows_in view) sp))) → b ≡ a ++ comma_at i → c ≡ b ++ named (part_of (texts_of view.stores) child.key) → d ≡ c ++ compact (meant under child.cell) → d ≡ o ++ members_text (members_of (take (i + 1) (children (rows_in view) sp)))
  members_step {b = b} {c = c} p q r s =
      members_more o (children (rows_in view) sp) i inside p q
      (r ∙ ap (λ st. b ++ named (part_of (texts_of st) child.key)) (sym stores) ∙ ap (λ (x : Row). b ++ named x.key) (sym row))
      (s ∙ ap (λ (x : Row). c ++ compact x.value) (sym row))

-- no more children
pub all_children : (view : View) (sp : Span) (i : ℕ) (members : List Entry) → members ≡ children view.entries.now sp → length members ≤ i → take i (children (rows_in view) sp) ≡ children (rows_in view) sp
all_children view sp i members is le = take_all i (children (rows_in view) sp) (omega (arith, ap length is, children-length (texts_of view.stores) view.entries.now sp))
