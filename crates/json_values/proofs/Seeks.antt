-- Keys that ascend, and a search by halves.
use Rattle.std.proofs.Common.{◌≡◌, ℕ, ◌+◌, ◌-◌, ◌<◌, ◌≤◌, List, length, drop, Less, None, ap, ◌∙◌, ⊎_elim, arith, length-take, length-drop}
use Rattle.std.proofs.lemmas.Bool.{cases_lt}
use Rattle.std.proofs.lemmas.List.{get_or-drop, get_or-take}
use Rattle.order.specs.Bytes.{compare_bytes}
use Rattle.json_values.specs.declared.parts.Source.{Source}
use Rattle.json_values.specs.declared.table.Entry.{Entry}
use Rattle.json_values.specs.declared.table.Span.{Span}
use Rattle.json_values.specs.Meaning.{Finds, Within, children, key_at, no_entry, part_of}

-- the keys of the numbers from `first` to `end` ascend
abbrev pub Rises : (ℕ → List ℕ) → ℕ → ℕ → Type 0
Rises key first end = (i j : ℕ) → first ≤ i → i < j → j < end → compare_bytes (key i) (key j) ≡ Less

module _ (texts : Source → List ℕ) (entries : List Entry) (sp : Span) (key : List ℕ) where
  child : (i : ℕ) → i < length (children entries sp) → key_at texts (children entries sp) i ≡ key_at texts entries (sp.first + i)
  child i lt = ap (λ (e : Entry). part_of texts e.key)
      (get_or-take sp.count (drop sp.first entries) i no_entry (omega (arith, length-take sp.count (drop sp.first entries)))
      ∙ get_or-drop sp.first entries i no_entry)

  within : (i : ℕ) → i < length (children entries sp) → Within entries sp (sp.first + i)
  within i lt =
      let long : i < length (drop sp.first entries) = omega (arith, length-take sp.count (drop sp.first entries)) in
      (omega arith, omega (arith, length-take sp.count (drop sp.first entries)), omega (arith, length-drop sp.first entries))

  -- no member of the span has the key, where none below `low` has it and none from `high` on
  pub absent : (members : List Entry) (low high : ℕ) → members ≡ children entries sp → high ≤ low
      → (Rises (key_at texts members) 0 (length members) → (i : ℕ) → 0 ≤ i → i < low → key_at texts members i ≡ key → ⊥)
      → (Rises (key_at texts members) 0 (length members) → (i : ℕ) → high ≤ i → i < length members → key_at texts members i ≡ key → ⊥)
      → Finds texts entries sp key None
  absent members low high is met below above ascending k at same =
      let long : length members ≡ length (children entries sp) = ap length is in
      let lt : k - sp.first < length (children entries sp) = omega (arith, at.0, at.1, at.2, length-take sp.count (drop sp.first entries), length-drop sp.first entries) in
      let here : sp.first + (k - sp.first) ≡ k = omega (arith, at.0) in
      let equal : key_at texts members (k - sp.first) ≡ key = ap (λ z. key_at texts z (k - sp.first)) is ∙ child (k - sp.first) lt ∙ ap (key_at texts entries) here ∙ same in
      let rises : Rises (key_at texts members) 0 (length members) = λ i j from up to.
      let li : i < length (children entries sp) = omega arith in
      let lj : j < length (children entries sp) = omega arith in
      rw (is, child i li, child j lj) (ascending (sp.first + i) (sp.first + j) (within i li) (within j lj) (omega arith)) in
      ⊎_elim
      (λ (l : k - sp.first < low). below rises (k - sp.first) (omega arith) l equal)
      (λ (l : low ≤ k - sp.first). above rises (k - sp.first) (omega arith) (omega arith) equal)
      (cases_lt (k - sp.first) low)
