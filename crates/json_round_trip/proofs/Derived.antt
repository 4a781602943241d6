-- What a text's derivation says of its value: that it can be read, its limits, and that what is written of it is no longer.
use Rattle.std.proofs.Common.{◌≡◌, ℕ, zero, suc, ◌+◌, ◌-◌, ◌*◌, ◌/◌, ◌%◌, ◌^◌, ◌<◌, ◌≤◌, Bool, true, false, eqb, ltb, leb, List, [], ◌∷◌, ◌++◌, length, pos, neg_ℤ, decimal, refl, ap, arith}
use Rattle.json_values.specs.Meaning.{Row, items_of, members_of}
use Rattle.json_values.specs.Value.{Value, null, bool, int, uint, text, list, map}
use Rattle.json_reader.specs.Values.{entered, item_rows, member_rows, number_of, value_of}
use Rattle.json_round_trip.proofs.Characters.{chars_spelt}
use Rattle.json_round_trip.proofs.Measures.{entered_measures, entered_readable, items_text_length, members_text_length, no_items_length, no_members_length, pushed}
use Rattle.json_round_trip.specs.Readable.{Readable, ReadableItems, ReadableMembers, count, items_count, items_nesting, members_count, members_nesting, nesting}
use Rattle.json_scanner.specs.Grammar.{Tree, Trees, Chars, Elements, Entries, Name, Numeral, Whole, over, overs, over_members, size, sizes, member_sizes, unfit}
use Rattle.json_scanner.specs.Grammar as g
use Rattle.json_writer.specs.Back.{Letters}
use Rattle.json_writer.specs.Compact.{compact, escaped, items_text, members_text, more_items, more_members, quoted}
use Rattle.std.proofs.lemmas.Fmt.{decimal_digit, decimal_step}
use Rattle.std.proofs.lemmas.List.{length-append}
use Rattle.std.proofs.lemmas.Bool.{and_parts, cond_both, eqb-false, leb-false, leb-true, ltb-false, ltb-true, or_parts, true≢false}
use Rattle.std.specs.List.{flat_map}

-- v in d lists and maps, of a tree with `few` values and a text of `short` bytes
pub record Good (d few short : ℕ) (v : Value) : Type 0 where
  pub readable : Readable v
  pub deep : d + nesting v ≤ 200
  pub many : count v ≤ few
  pub long : length (compact v) ≤ short

record GoodItems (d few short : ℕ) (rows : List Row) : Type 0 where
  readable : ReadableItems (items_of rows)
  deep : d + items_nesting (items_of rows) ≤ 200
  many : items_count (items_of rows) ≤ few
  long : length (more_items (items_of rows)) ≤ suc short

record GoodMembers (d few short : ℕ) (rows : List Row) : Type 0 where
  readable : ReadableMembers (members_of rows)
  deep : d + members_nesting (members_of rows) ≤ 200
  many : members_count (members_of rows) ≤ few
  long : length (more_members (members_of rows)) ≤ suc short

-- ---- numbers

numeral_short : {n : ℕ} {s : List ℕ} → Numeral n s → n < 2 ^ 64 → length (decimal n) ≤ length s
numeral_short (Numeral.digit b h) lt =
    let p = and_parts (leb 48 b) (leb b 57) h in
    omega (arith, ap length (decimal_digit (b - 48) (omega (arith, leb-true 48 b p.0, leb-true b 57 p.1))))
numeral_short (Numeral.more {n} {s} b num some h) lt =
    let p = and_parts (leb 48 b) (leb b 57) h in
    let low = leb-true 48 b p.0 in
    let up = leb-true b 57 p.1 in
    let front : (n * 10 + (b - 48)) / 10 ≡ n = omega arith in
    omega (
      arith,
      numeral_short num (omega arith),
      ap length (decimal_step (n * 10 + (b - 48)) (omega arith) lt),
      length-append (decimal ((n * 10 + (b - 48)) / 10)) ((48 + (n * 10 + (b - 48)) % 10) ∷ []),
      ap (λ k. length (decimal k)) front,
      length-append s (b ∷ []),
    )

below_good : (d n short : ℕ) → d ≤ 200 → n < 2 ^ 63 → length (decimal n) ≤ short → Good d 1 short (int (pos n))
unfolding compact
below_good d n short le lt h = record { readable = lt; deep = omega arith; many = omega arith; long = h }

above_good : (d n short : ℕ) → d ≤ 200 → 2 ^ 63 ≤ n → n < 2 ^ 64 → length (decimal n) ≤ short → Good d 1 short (uint n)
unfolding compact
above_good d n short le low up h = record { readable = (low, up); deep = omega arith; many = omega arith; long = h }

minus_good : (d n short : ℕ) → d ≤ 200 → (n ≡ 0 → ⊥) → n ≤ 2 ^ 63 → length (decimal n) ≤ short → Good d 1 (suc short) (int (neg_ℤ (pos n)))
unfolding compact
minus_good d zero short le some up h = absurd (some refl)
minus_good d (suc n) short le some up h = record { readable = up; deep = omega arith; many = omega arith; long = omega arith }

whole_good : {minus : Bool} {n : ℕ} {s : List ℕ} → Whole minus n s → (d : ℕ) → d ≤ 200 → unfit minus n ≡ false → Good d 1 (length s) (number_of minus n)
whole_good (Whole.plus {n} {s} num) d le h =
    let fits = leb-false (2 ^ 64) n h in
    let short = numeral_short num fits in
    cond_both (ltb n (2 ^ 63)) (int (pos n)) (uint n) (Good d 1 (length s)) (λ e. below_good d n (length s) le (ltb-true n (2 ^ 63) e) short) (λ e. above_good d n (length s) le (ltb-false n (2 ^ 63) e) fits short)
whole_good (Whole.minus {n} {s} num) d le h =
    let p = or_parts (eqb n 0) (leb 9223372036854775809 n) h in
    let fits = leb-false 9223372036854775809 n p.1 in
    let short = numeral_short num (omega arith) in
    cond_both (leb n (2 ^ 63)) (int (neg_ℤ (pos n))) (uint n) (Good d 1 (suc (length s))) (λ e. minus_good d n (length s) le (eqb-false n 0 p.0) (omega arith) short) (λ e. absurd (omega (arith, leb-false n (2 ^ 63) e)))

-- ---- texts

quoted-length : (k : List ℕ) → length (quoted k) ≡ length (flat_map escaped k) + 2
unfolding quoted
quoted-length k = omega (arith, length-append (flat_map escaped k) (34 ∷ []))

text_good : {cs s : List ℕ} → Chars cs s → (d : ℕ) → d ≤ 200 → Good d 1 (length (34 ∷ s ++ 34 ∷ [])) (text cs)
unfolding compact
text_good {cs} {s} ch d le =
    let sp = chars_spelt ch in
    record { readable = sp.0; deep = omega arith; many = omega arith; long = omega (arith, quoted-length cs, length-append s (34 ∷ [])) }

name_length : (a s b : List ℕ) → length (a ++ 34 ∷ s ++ 34 ∷ b ++ 58 ∷ []) ≡ length a + length s + length b + 3
name_length a s b = simp length-append (omega arith)

name_good : {k n : List ℕ} → Name k n → Letters k × (length (quoted k) + 1 ≤ length n)
name_good (Name.name {k} {a} {s} {b} ba ch bb) =
    let sp = chars_spelt ch in
    (sp.0, omega (arith, quoted-length k, name_length a s b))

-- ---- literals

null_good : (d : ℕ) → d ≤ 200 → Good d 1 4 null
unfolding compact
null_good d le = record { readable = tt; deep = omega arith; many = omega arith; long = omega arith }

true_good : (d : ℕ) → d ≤ 200 → Good d 1 4 (bool true)
unfolding compact
true_good d le = record { readable = tt; deep = omega arith; many = omega arith; long = omega arith }

false_good : (d : ℕ) → d ≤ 200 → Good d 1 5 (bool false)
unfolding compact
false_good d le = record { readable = tt; deep = omega arith; many = omega arith; long = omega arith }

-- ---- lists and maps

list_good : (d few short : ℕ) (rows : List Row) → GoodItems (suc d) few short rows → Good d (suc few) (2 + short) (list (items_of rows))
unfolding compact
list_good d few short rows h = record {
  readable = h.readable;
  deep = omega (arith, h.deep);
  many = omega (arith, h.many);
  long = omega (arith, h.long, items_text_length (items_of rows), length-append (items_text (items_of rows)) (93 ∷ []));
}

map_good : (d few short : ℕ) (rows : List Row) → GoodMembers (suc d) few short rows → Good d (suc few) (2 + short) (map (members_of rows))
unfolding compact
map_good d few short rows h = record {
  readable = h.readable;
  deep = omega (arith, h.deep);
  many = omega (arith, h.many);
  long = omega (arith, h.long, members_text_length (members_of rows), length-append (members_text (members_of rows)) (125 ∷ []));
}

no_items : (d short : ℕ) → d ≤ 200 → GoodItems d 0 short []
no_items d short le = record { readable = tt; deep = omega arith; many = omega arith; long = omega (arith, no_items_length) }

no_members : (d short : ℕ) → d ≤ 200 → GoodMembers d 0 short []
no_members d short le = record { readable = tt; deep = omega arith; many = omega arith; long = omega (arith, no_members_length) }

more_good : (d few short one len : ℕ) (r : Row) (rows : List Row) → GoodItems d few short rows → Good d one len r.value → GoodItems d (few + one) (suc (short + len)) (rows ++ r ∷ [])
more_good d few short one len r rows h v = let p = pushed r rows in record {
  readable = p.readable v.readable h.readable;
  deep = omega (arith, p.deep, h.deep, v.deep);
  many = omega (arith, p.many, h.many, v.many);
  long = omega (arith, p.long, h.long, v.long);
}

first_good : (d one len : ℕ) (r : Row) → Good d one len r.value → GoodItems d one len (r ∷ [])
first_good d one len r v = let p = pushed r [] in record {
  readable = (v.readable, tt);
  deep = omega (arith, p.deep, v.deep);
  many = omega (arith, p.many, v.many);
  long = omega (arith, p.long, v.long, no_items_length);
}

entered_good : (d few short one len : ℕ) (r : Row) (rows : List Row) → GoodMembers d few short rows → Letters r.key → Good d one len r.value → GoodMembers d (few + one) (short + (length (quoted r.key) + len + 2)) (entered r rows)
entered_good d few short one len r rows h l v = let p = entered_measures r rows in record {
  readable = entered_readable r rows l v.readable h.readable;
  deep = omega (arith, p.deep, h.deep, v.deep);
  many = omega (arith, p.many, h.many, v.many);
  long = omega (arith, p.long, h.long, v.long);
}

sole_good : (d one len : ℕ) (r : Row) → Letters r.key → Good d one len r.value → GoodMembers d one (length (quoted r.key) + len + 1) (entered r [])
sole_good d one len r l v = let p = entered_measures r [] in record {
  readable = entered_readable r [] l v.readable tt;
  deep = omega (arith, p.deep, v.deep);
  many = omega (arith, p.many, v.many);
  long = omega (arith, p.long, v.long, no_members_length);
}

-- wider limits will do
items_within : (d few more short longer : ℕ) (rows : List Row) → few ≤ more → short ≤ longer → GoodItems d few short rows → GoodItems d more longer rows
items_within d few more short longer rows fm sl h = record { readable = h.readable; deep = h.deep; many = omega (arith, h.many); long = omega (arith, h.long) }

members_within : (d few more short longer : ℕ) (rows : List Row) → few ≤ more → short ≤ longer → GoodMembers d few short rows → GoodMembers d more longer rows
members_within d few more short longer rows fm sl h = record { readable = h.readable; deep = h.deep; many = omega (arith, h.many); long = omega (arith, h.long) }

within : (d few short longer : ℕ) (v : Value) → short ≤ longer → Good d few short v → Good d few longer v
within d few short longer v le h = record { readable = h.readable; deep = h.deep; many = h.many; long = omega (arith, h.long) }

brackets : (a : List ℕ) (b c : ℕ) → length (b ∷ a ++ c ∷ []) ≡ 2 + length a
brackets a b c = simp length-append (omega arith)

one_length : (a s b : List ℕ) → length s ≤ length (a ++ s ++ b)
one_length a s b = simp length-append (omega arith)

more_length : (w a s b : List ℕ) → suc (length w + length s) ≤ length (w ++ 44 ∷ a ++ s ++ b)
more_length w a s b = simp length-append (omega arith)

sole_length : (n a s b : List ℕ) → length n + length s ≤ length (n ++ a ++ s ++ b)
sole_length n a s b = simp length-append (omega arith)

further_length : (w n a s b : List ℕ) → suc (length w + length n + length s) ≤ length (w ++ 44 ∷ n ++ a ++ s ++ b)
further_length w n a s b = simp length-append (omega arith)

mutual
  unfolding value_of

  pub value_good : {t : Tree} {s : List ℕ} → g.Value t s → (d : ℕ) → d ≤ 200 → over d t ≡ false → Good d (size t) (length s) (value_of t)
  value_good g.Value.null_word d le h = null_good d le
  value_good g.Value.true_word d le h = true_good d le
  value_good g.Value.false_word d le h = false_good d le
  value_good (g.Value.whole w) d le h = whole_good w d le h
  value_good (g.Value.broken r) d le h = absurd (true≢false h)
  value_good (g.Value.string ch) d le h = text_good ch d le
  value_good (g.Value.empty_list {a} ba) d le h =
      let lt = leb-false 200 d (or_parts (leb 200 d) false h).0 in
      within d 1 (2 + 0) (length (91 ∷ a ++ 93 ∷ [])) (list (items_of [])) (omega (arith, brackets a 91 93)) (list_good d 0 0 [] (no_items (suc d) 0 (omega arith)))
  value_good (g.Value.full_list {vs} {s} el) d le h =
      let p = or_parts (leb 200 d) (overs (suc d) vs) h in
      let lt = leb-false 200 d p.0 in
      within d (suc (sizes vs)) (2 + length s) (length (91 ∷ s ++ 93 ∷ [])) (list (items_of (item_rows vs))) (omega (arith, brackets s 91 93)) (list_good d (sizes vs) (length s) (item_rows vs) (elements_good el (suc d) lt p.1))
  value_good (g.Value.empty_object {a} ba) d le h =
      let lt = leb-false 200 d (or_parts (leb 200 d) false h).0 in
      within d 1 (2 + 0) (length (123 ∷ a ++ 125 ∷ [])) (map (members_of [])) (omega (arith, brackets a 123 125)) (map_good d 0 0 [] (no_members (suc d) 0 (omega arith)))
  value_good (g.Value.full_object {ms} {s} en) d le h =
      let p = or_parts (leb 200 d) (over_members (suc d) ms) h in
      let lt = leb-false 200 d p.0 in
      within d (suc (member_sizes ms)) (2 + length s) (length (123 ∷ s ++ 125 ∷ [])) (map (members_of (member_rows ms))) (omega (arith, brackets s 123 125)) (map_good d (member_sizes ms) (length s) (member_rows ms) (entries_good en (suc d) lt p.1))

  elements_good : {ts : Trees} {s : List ℕ} → Elements ts s → (d : ℕ) → d ≤ 200 → overs d ts ≡ false → GoodItems d (sizes ts) (length s) (item_rows ts)
  elements_good (Elements.one {v} {a} {s} {b} ba val bb) d le h =
      let r : Row = record { key = []; value = value_of v } in
      items_within d (size v) (0 + size v) (length s) (length (a ++ s ++ b)) (r ∷ []) (omega arith) (one_length a s b)
      (first_good d (size v) (length s) r (value_good val d le h))
  elements_good (Elements.more {vs} {v} {w} {a} {s} {b} el ba val bb) d le h =
      let p = or_parts (overs d vs) (over d v) h in
      let r : Row = record { key = []; value = value_of v } in
      items_within d (sizes vs + size v) (sizes vs + size v) (suc (length w + length s)) (length (w ++ 44 ∷ a ++ s ++ b)) (item_rows vs ++ r ∷ []) (omega arith) (more_length w a s b)
      (more_good d (sizes vs) (length w) (size v) (length s) r (item_rows vs) (elements_good el d le p.0) (value_good val d le p.1))

  entries_good : {ms : g.Members} {s : List ℕ} → Entries ms s → (d : ℕ) → d ≤ 200 → over_members d ms ≡ false → GoodMembers d (member_sizes ms) (length s) (member_rows ms)
  entries_good (Entries.sole {k} {v} {n} {a} {s} {b} na ba val bb) d le h =
      let name = name_good na in
      let r : Row = record { key = k; value = value_of v } in
      members_within d (size v) (0 + size v) (length (quoted k) + length s + 1) (length (n ++ a ++ s ++ b)) (entered r []) (omega arith) (omega (arith, name.1, sole_length n a s b))
      (sole_good d (size v) (length s) r name.0 (value_good val d le h))
  entries_good (Entries.further {ms} {k} {v} {w} {n} {a} {s} {b} en na ba val bb) d le h =
      let p = or_parts (over_members d ms) (over d v) h in
      let name = name_good na in
      let r : Row = record { key = k; value = value_of v } in
      members_within d (member_sizes ms + size v) (member_sizes ms + size v) (length w + (length (quoted k) + length s + 2)) (length (w ++ 44 ∷ n ++ a ++ s ++ b)) (entered r (member_rows ms)) (omega arith) (omega (arith, name.1, further_length w n a s b))
      (entered_good d (member_sizes ms) (length w) (size v) (length s) r (member_rows ms) (entries_good en d le p.0) name.0 (value_good val d le p.1))

-- the value of a text within the limits
pub text_holds : {t : Tree} {s : List ℕ} → g.Text t s → over 0 t ≡ false → Good 0 (size t) (length s) (value_of t)
text_holds {t} (g.Text.whole {v} {a} {s} {b} ba val bb) h = within 0 (size v) (length s) (length (a ++ s ++ b)) (value_of v) (one_length a s b) (value_good val 0 (omega arith) h)
