-- How deep, how many and how long the rows of items and members are.
use Rattle.std.proofs.Common.{◌≡◌, ℕ, suc, ◌+◌, ◌-◌, ◌≤◌, max, List, [], ◌∷◌, ◌++◌, length, Ordering, Less, Equal, Greater, refl, ap, ◌∙◌, arith}
use Rattle.json_values.specs.Meaning.{Row, items_of, members_of}
use Rattle.json_values.specs.Value.{Value, Items, Members, item, member, no_item, no_member}
use Rattle.json_reader.proofs.Ordering.{before_all, before_same, entered_before}
use Rattle.json_reader.specs.Values.{entered, entered_by}
use Rattle.json_round_trip.specs.Readable.{Readable, ReadableItems, ReadableMembers, count, items_count, items_nesting, members_count, members_nesting, nesting}
use Rattle.json_writer.specs.Back.{Letters}
use Rattle.json_writer.specs.Compact.{compact, items_text, members_text, more_items, more_members, quoted}
use Rattle.order.specs.Bytes.{compare_bytes}
use Rattle.order.specs.Keyed.{compare_bytes_total}
use Rattle.std.proofs.lemmas.List.{length-append}
use Rattle.std.specs.Ordering.{ordering_reverse}

-- ---- lengths of texts, with a comma before each item or member

more_items_length : (v : Value) (vs : Items) → length (more_items (item v vs)) ≡ suc (length (compact v) + length (more_items vs))
unfolding compact
more_items_length v vs = ap suc (length-append (compact v) (more_items vs))

pub items_text_length : (vs : Items) → length (items_text vs) ≡ length (more_items vs) - 1
unfolding compact
items_text_length no_item = refl
items_text_length (item v vs) = omega arith

more_members_length : (k : List ℕ) (v : Value) (ms : Members) → length (more_members (member k v ms)) ≡ length (quoted k) + length (compact v) + 2 + length (more_members ms)
unfolding compact
more_members_length k v ms =
    omega (arith, length-append (quoted k ++ 58 ∷ []) (compact v ++ more_members ms), length-append (quoted k) (58 ∷ []), length-append (compact v) (more_members ms))

pub members_text_length : (ms : Members) → length (members_text ms) ≡ length (more_members ms) - 1
unfolding compact
members_text_length no_member = refl
members_text_length (member k v ms) = omega arith

pub no_items_length : length (more_items no_item) ≡ 0
unfolding compact
no_items_length = refl

pub no_members_length : length (more_members no_member) ≡ 0
unfolding compact
no_members_length = refl

-- ---- one more item

pub record Pushed (r : Row) (rows : List Row) : Type 0 where
  pub readable : Readable r.value → ReadableItems (items_of rows) → ReadableItems (items_of (rows ++ r ∷ []))
  pub deep : items_nesting (items_of (rows ++ r ∷ [])) ≤ max (nesting r.value) (items_nesting (items_of rows))
  pub many : items_count (items_of (rows ++ r ∷ [])) ≤ items_count (items_of rows) + count r.value
  pub long : length (more_items (items_of (rows ++ r ∷ []))) ≤ length (more_items (items_of rows)) + suc (length (compact r.value))

pub pushed : (r : Row) (rows : List Row) → Pushed r rows
pushed r [] = record {
  readable = λ v h. (v, tt);
  deep = omega arith;
  many = omega arith;
  long = omega (arith, more_items_length r.value no_item, no_items_length);
}
pushed r (s ∷ rows) = let ih = pushed r rows in record {
  readable = λ v h. (h.0, ih.readable v h.1);
  deep = omega (arith, ih.deep);
  many = omega (arith, ih.many);
  long = omega (arith, ih.long, more_items_length s.value (items_of rows), more_items_length s.value (items_of (rows ++ r ∷ [])));
}

-- ---- one more member

pub record Entered (r : Row) (rows : List Row) : Type 0 where
  pub deep : members_nesting (members_of (entered r rows)) ≤ max (nesting r.value) (members_nesting (members_of rows))
  pub many : members_count (members_of (entered r rows)) ≤ members_count (members_of rows) + count r.value
  pub long : length (more_members (members_of (entered r rows))) ≤ length (more_members (members_of rows)) + (length (quoted r.key) + length (compact r.value) + 2)

pub entered_measures : (r : Row) (rows : List Row) → Entered r rows
unfolding entered
entered_measures r [] = record {
  deep = omega arith;
  many = omega arith;
  long = omega (arith, more_members_length r.key r.value no_member, no_members_length);
}
entered_measures r (s ∷ ss) = let ih = entered_measures r ss in record {
  deep = deep_by (compare_bytes r.key s.key) ih.deep;
  many = many_by (compare_bytes r.key s.key) ih.many;
  long = long_by (compare_bytes r.key s.key) ih.long;
}
  where
    deep_by : (o : Ordering) → members_nesting (members_of (entered r ss)) ≤ max (nesting r.value) (members_nesting (members_of ss)) → members_nesting (members_of (entered_by o r s ss (entered r ss))) ≤ max (nesting r.value) (max (nesting s.value) (members_nesting (members_of ss)))
    deep_by Less h = omega arith
    deep_by Equal h = omega arith
    deep_by Greater h = omega arith

    many_by : (o : Ordering) → members_count (members_of (entered r ss)) ≤ members_count (members_of ss) + count r.value → members_count (members_of (entered_by o r s ss (entered r ss))) ≤ (count s.value + members_count (members_of ss)) + count r.value
    many_by Less h = omega arith
    many_by Equal h = omega arith
    many_by Greater h = omega arith

    long_by : (o : Ordering) → length (more_members (members_of (entered r ss))) ≤ length (more_members (members_of ss)) + (length (quoted r.key) + length (compact r.value) + 2)
        → length (more_members (members_of (entered_by o r s ss (entered r ss)))) ≤ length (more_members (member s.key s.value (members_of ss))) + (length (quoted r.key) + length (compact r.value) + 2)
    long_by Less h = omega (arith, more_members_length r.key r.value (member s.key s.value (members_of ss)))
    long_by Equal h = omega (arith, more_members_length r.key r.value (members_of ss), more_members_length s.key s.value (members_of ss))
    long_by Greater h = omega (arith, more_members_length s.key s.value (members_of ss), more_members_length s.key s.value (members_of (entered r ss)))

pub entered_readable : (r : Row) (rows : List Row) → Letters r.key → Readable r.value → ReadableMembers (members_of rows) → ReadableMembers (members_of (entered r rows))
unfolding entered
entered_readable r [] l v h = ((l, tt), (v, tt))
entered_readable r (s ∷ ss) l v h = either (compare_bytes r.key s.key) refl (entered_readable r ss l v h.1.1)
  where
    either : (o : Ordering) → compare_bytes r.key s.key ≡ o → ReadableMembers (members_of (entered r ss)) → ReadableMembers (members_of (entered_by o r s ss (entered r ss)))
    either Less e i = ((l, (e, before_all r.key s.key (members_of ss) e h.0.1)), (v, h))
    either Equal e i = ((l, before_same r.key s.key (members_of ss) e h.0.1), (v, h.1.1))
    either Greater e i = ((h.0.0, entered_before s.key r ss (compare_bytes_total.antisymm s.key r.key ∙ ap ordering_reverse e) h.0.1), (h.1.0, i))
