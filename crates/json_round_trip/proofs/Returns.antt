-- A value that can be read is the value of its tree, which is within the limits where the value is.
use Rattle.std.proofs.Common.{◌≡◌, ℕ, suc, ◌+◌, ◌^◌, ◌≤◌, false, eqb, ltb, leb, List, [], ◌∷◌, ◌++◌, ℤ, pos, negsuc, Less, sym, refl, ap, ◌∙◌, subst, append_assoc, append-nil, arith}
use Rattle.json_values.specs.Meaning.{Row, items_of, members_of}
use Rattle.json_values.specs.Ordered.{Before}
use Rattle.json_values.specs.Value.{Value, Items, Members, null, bool, int, uint, text, list, map, no_item, item, no_member, member}
use Rattle.json_reader.specs.Values.{entered, entered_by, item_rows, member_rows, value_of}
use Rattle.json_round_trip.specs.Readable.{Readable, ReadableItems, ReadableMembers, count, items_count, items_nesting, members_count, members_nesting, nesting}
use Rattle.json_scanner.specs.Grammar.{Trees, nil, snoc, over, overs, over_members, size, sizes, member_sizes}
use Rattle.json_scanner.specs.Grammar as g
use Rattle.json_writer.specs.Back.{Small, Writable, WritableItems, WritableMembers, members_from, number_tree, tree_of, trees_from}
use Rattle.order.specs.Bytes.{compare_bytes}
use Rattle.order.specs.Keyed.{compare_bytes_total}
use Rattle.std.proofs.ByRecursion.{All-push, All-weaker}
use Rattle.std.proofs.lemmas.Bool.{cond-false, cond-true, le-leb, le-ltb, lt-leb, lt-ltb, ne_eqb, or_from}
use Rattle.std.specs.Ordering.{ordering_reverse}
use Rattle.std.specs.List.{AllByRecursion as All}

-- ---- such a value can be written

mutual
  pub writable : (v : Value) → Readable v → Writable v
  writable null h = tt
  writable (bool b) h = tt
  writable (int z) h = h
  writable (uint n) h = h.1
  writable (text s) h = h
  writable (list vs) h = items_writable vs h
  writable (map ms) h = members_writable ms h

  items_writable : (vs : Items) → ReadableItems vs → WritableItems vs
  items_writable no_item h = tt
  items_writable (item v vs) h = (writable v h.0, items_writable vs h.1)

  members_writable : (ms : Members) → ReadableMembers ms → WritableMembers ms
  members_writable no_member h = tt
  members_writable (member k v ms) h = (h.0.0, (writable v h.1.0, members_writable ms h.1.1))

-- ---- rows

abbrev item_list : Items → List Row
item_list no_item = []
item_list (item v vs) = record { key = []; value = v } ∷ item_list vs

abbrev member_list : Members → List Row
member_list no_member = []
member_list (member k v ms) = record { key = k; value = v } ∷ member_list ms

items_same : (vs : Items) → items_of (item_list vs) ≡ vs
items_same no_item = refl
items_same (item v vs) = ap (item v) (items_same vs)

members_same : (ms : Members) → members_of (member_list ms) ≡ ms
members_same no_member = refl
members_same (member k v ms) = ap (member k v) (members_same ms)

-- a member whose key comes behind all others
entered-last : (r : Row) (rows : List Row) → All (λ s. compare_bytes s.key r.key ≡ Less) rows → entered r rows ≡ rows ++ r ∷ []
unfolding entered
entered-last r [] a = refl
entered-last r (s ∷ ss) a =
    ap (λ o. entered_by o r s ss (entered r ss)) (compare_bytes_total.antisymm r.key s.key ∙ ap ordering_reverse a.0) ∙ ap (λ zs. s ∷ zs) (entered-last r ss a.1)

-- ---- the value

int_same : (z : ℤ) → Small z → value_of (number_tree z) ≡ int z
unfolding value_of
int_same (pos n) h = cond-true (ltb n (2 ^ 63)) (int (pos n)) (uint n) (lt-ltb n (2 ^ 63) h)
int_same (negsuc n) h = cond-true (leb (suc n) (2 ^ 63)) (int (negsuc n)) (uint (suc n)) (le-leb (suc n) (2 ^ 63) (omega arith))

mutual
  unfolding value_of

  pub value_same : (v : Value) → Readable v → value_of (tree_of v) ≡ v
  value_same null h = refl
  value_same (bool b) h = refl
  value_same (int z) h = int_same z h
  value_same (uint n) h = cond-false (ltb n (2 ^ 63)) (int (pos n)) (uint n) (le-ltb n (2 ^ 63) h.0)
  value_same (text s) h = refl
  value_same (list vs) h = ap list (ap items_of (items_back nil vs h) ∙ items_same vs)
  value_same (map ms) h = ap map (ap members_of (members_back g.none ms tt h) ∙ members_same ms)

  items_back : (ts : Trees) (vs : Items) → ReadableItems vs → item_rows (trees_from ts vs) ≡ item_rows ts ++ item_list vs
  items_back ts no_item h = sym (append-nil (item_rows ts))
  items_back ts (item v vs) h =
      items_back (snoc ts (tree_of v)) vs h.1
      ∙ (append_assoc (item_rows ts) (record { key = []; value = value_of (tree_of v) } ∷ []) (item_list vs)
      ∙ ap (λ x. item_rows ts ++ record { key = []; value = x } ∷ item_list vs) (value_same v h.0))

  members_back : (ts : g.Members) (ms : Members) → All (λ r. Before r.key ms) (member_rows ts) → ReadableMembers ms → member_rows (members_from ts ms) ≡ member_rows ts ++ member_list ms
  members_back ts no_member a h = sym (append-nil (member_rows ts))
  members_back ts (member k v ms) a h =
      let r : Row = record { key = k; value = value_of (tree_of v) } in
      let here : entered r (member_rows ts) ≡ member_rows ts ++ r ∷ [] = entered-last r (member_rows ts) (All-weaker (λ s. Before s.key (member k v ms)) (λ s. compare_bytes s.key k ≡ Less) (λ s b. b.0) (member_rows ts) a) in
      let later : All (λ s. Before s.key ms) (member_rows ts ++ r ∷ []) = All-push (λ s. Before s.key ms) (member_rows ts) r (All-weaker (λ s. Before s.key (member k v ms)) (λ s. Before s.key ms) (λ s b. b.1) (member_rows ts) a) h.0.1 in
      members_back (g.with ts k (tree_of v)) ms (subst (All (λ s. Before s.key ms)) (sym here) later) h.1.1
      ∙ (ap (λ z. z ++ member_list ms) here
      ∙ (append_assoc (member_rows ts) (r ∷ []) (member_list ms)
      ∙ ap (λ x. member_rows ts ++ record { key = k; value = x } ∷ member_list ms) (value_same v h.1.0)))

-- ---- the limits

number_fits : (d : ℕ) (z : ℤ) → Small z → over d (number_tree z) ≡ false
number_fits d (pos n) h = lt-leb (2 ^ 64) n (omega arith)
number_fits d (negsuc n) h = or_from (eqb (suc n) 0) (leb 9223372036854775809 (suc n)) (ne_eqb (suc n) 0 (λ e. omega arith)) (lt-leb 9223372036854775809 (suc n) (omega arith))

mutual
  pub fits : (d : ℕ) (v : Value) → Readable v → d + nesting v ≤ 200 → over d (tree_of v) ≡ false
  fits d null h le = refl
  fits d (bool b) h le = refl
  fits d (int z) h le = number_fits d z h
  fits d (uint n) h le = lt-leb (2 ^ 64) n h.1
  fits d (text s) h le = refl
  fits d (list vs) h le = or_from (leb 200 d) (overs (suc d) (trees_from nil vs)) (lt-leb 200 d (omega arith)) (items_fit (suc d) nil vs refl h (omega arith))
  fits d (map ms) h le = or_from (leb 200 d) (over_members (suc d) (members_from g.none ms)) (lt-leb 200 d (omega arith)) (members_fit (suc d) g.none ms refl h (omega arith))

  items_fit : (d : ℕ) (ts : Trees) (vs : Items) → overs d ts ≡ false → ReadableItems vs → d + items_nesting vs ≤ 200 → overs d (trees_from ts vs) ≡ false
  items_fit d ts no_item e h le = e
  items_fit d ts (item v vs) e h le = items_fit d (snoc ts (tree_of v)) vs (or_from (overs d ts) (over d (tree_of v)) e (fits d v h.0 (omega arith))) h.1 (omega arith)

  members_fit : (d : ℕ) (ts : g.Members) (ms : Members) → over_members d ts ≡ false → ReadableMembers ms → d + members_nesting ms ≤ 200 → over_members d (members_from ts ms) ≡ false
  members_fit d ts no_member e h le = e
  members_fit d ts (member k v ms) e h le = members_fit d (g.with ts k (tree_of v)) ms (or_from (over_members d ts) (over d (tree_of v)) e (fits d v h.1.0 (omega arith))) h.1.1 (omega arith)

number_size : (z : ℤ) → size (number_tree z) ≡ 1
number_size (pos n) = refl
number_size (negsuc n) = refl

mutual
  pub same_size : (v : Value) → size (tree_of v) ≡ count v
  same_size null = refl
  same_size (bool b) = refl
  same_size (int z) = number_size z
  same_size (uint n) = refl
  same_size (text s) = refl
  same_size (list vs) = omega (arith, items_size nil vs)
  same_size (map ms) = omega (arith, members-size g.none ms)

  items_size : (ts : Trees) (vs : Items) → sizes (trees_from ts vs) ≡ sizes ts + items_count vs
  items_size ts no_item = omega arith
  items_size ts (item v vs) = omega (arith, items_size (snoc ts (tree_of v)) vs, same_size v)

  members-size : (ts : g.Members) (ms : Members) → member_sizes (members_from ts ms) ≡ member_sizes ts + members_count ms
  members-size ts no_member = omega arith
  members-size ts (member k v ms) = omega (arith, members-size (g.with ts k (tree_of v)) ms, same_size v)
