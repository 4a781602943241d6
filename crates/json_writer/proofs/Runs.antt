-- Rows written one after another.
use Rattle.std.proofs.Common.{◌≡◌, ℕ, ◌+◌, ◌<◌, List, [], ◌∷◌, ◌++◌, length, get_or, take, append_assoc, append-nil, arith}
use Rattle.std.proofs.lemmas.List.{length-take-le, take_more}
use Rattle.json_values.specs.Meaning.{Row, no_row, items_of, members_of}
use Rattle.json_writer.specs.Compact.{comma_at, compact, items_text, members_text, more_items, more_members, named}

more_items_push : (rows : List Row) (r : Row) → more_items (items_of (rows ++ r ∷ [])) ≡ more_items (items_of rows) ++ (44 ∷ compact r.value)
unfolding compact
more_items_push [] r = simp append-nil
more_items_push (x ∷ xs) r = simp (more_items_push xs r, append_assoc)

pub items_push : (rows : List Row) (r : Row) → items_text (items_of (rows ++ r ∷ [])) ≡ items_text (items_of rows) ++ (comma_at (length rows) ++ compact r.value)
unfolding compact
items_push [] r = simp append-nil
items_push (x ∷ xs) r = simp (more_items_push xs r, append_assoc)

more_members_push : (rows : List Row) (r : Row) → more_members (members_of (rows ++ r ∷ [])) ≡ more_members (members_of rows) ++ (44 ∷ (named r.key ++ compact r.value))
unfolding compact
more_members_push [] r = simp append-nil
more_members_push (x ∷ xs) r = simp (more_members_push xs r, append_assoc)

pub members_push : (rows : List Row) (r : Row) → members_text (members_of (rows ++ r ∷ [])) ≡ members_text (members_of rows) ++ (comma_at (length rows) ++ (named r.key ++ compact r.value))
unfolding compact
members_push [] r = simp append-nil
members_push (x ∷ xs) r = simp (more_members_push xs r, append_assoc)

-- one row more
module _ (o : List ℕ) (rows : List Row) (i : ℕ) (lt : i < length rows) where
  abbrev pub next : Row
  next = get_or rows i no_row

  pub items_more : {a b c : List ℕ} → a ≡ o ++ items_text (items_of (take i rows)) → b ≡ a ++ comma_at i → c ≡ b ++ compact next.value → c ≡ o ++ items_text (items_of (take (i + 1) rows))
  items_more p q r = rw (take_more rows i no_row lt, items_push (take i rows) next, length-take-le i rows (omega arith), r, q, p) (simp append_assoc)

  pub members_more : {a b c d : List ℕ} → a ≡ o ++ members_text (members_of (take i rows)) → b ≡ a ++ comma_at i → c ≡ b ++ named next.key → d ≡ c ++ compact next.value → d ≡ o ++ members_text (members_of (take (i + 1) rows))
  members_more p q r s = rw (take_more rows i no_row lt, members_push (take i rows) next, length-take-le i rows (omega arith), s, r, q, p) (simp append_assoc)
