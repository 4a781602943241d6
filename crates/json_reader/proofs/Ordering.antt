-- Members are entered where their keys belong, so that the value of every tree is ordered.
use Rattle.std.proofs.Common.{◌≡◌, ℕ, ◌^◌, Bool, true, false, cond, ltb, leb, List, [], ◌∷◌, ◌++◌, pos, neg_ℤ, Ordering, Less, Equal, Greater, refl, ap, ◌∙◌}
use Rattle.json_values.specs.Meaning.{Row, items_of, members_of}
use Rattle.json_values.specs.Ordered.{Before, Ordered, OrderedItems, OrderedMembers}
use Rattle.json_values.specs.Value as value
use Rattle.json_scanner.specs.Grammar.{Trees, Members}
use Rattle.json_scanner.specs.Grammar as written
use Rattle.json_reader.specs.Law.{ReadsOrdered}
use Rattle.json_reader.specs.Values.{entered, entered_by, item_rows, member_rows, number_of, value_of}
use Rattle.order.specs.Bytes.{compare_bytes}
use Rattle.order.specs.Keyed.{compare_bytes_total}
use Rattle.std.specs.Ordering.{ordering_reverse}

-- what comes before a key comes before all that the key comes before
pub before_all : (k j : List ℕ) (ms : value.Members) → compare_bytes k j ≡ Less → Before j ms → Before k ms
before_all k j value.no_member h b = tt
before_all k j (value.member l v ms) h b = (compare_bytes_total.trans k j l h b.0, before_all k j ms h b.1)

pub before_same : (k j : List ℕ) (ms : value.Members) → compare_bytes k j ≡ Equal → Before j ms → Before k ms
before_same k j value.no_member h b = tt
before_same k j (value.member l v ms) h b = (compare_bytes_total.congr k j l h ∙ b.0, before_same k j ms h b.1)

pub entered_before : (k : List ℕ) (r : Row) (rows : List Row) → compare_bytes k r.key ≡ Less → Before k (members_of rows) → Before k (members_of (entered r rows))
unfolding entered
entered_before k r [] h b = (h, tt)
entered_before k r (s ∷ ss) h b = either (compare_bytes r.key s.key) (entered_before k r ss h b.1)
  where
    either : (o : Ordering) → Before k (members_of (entered r ss)) → Before k (members_of (entered_by o r s ss (entered r ss)))
    either Less i = (h, b)
    either Equal i = (h, b.1)
    either Greater i = (b.0, i)

pub entered-ordered : (r : Row) (rows : List Row) → Ordered r.value → OrderedMembers (members_of rows) → OrderedMembers (members_of (entered r rows))
unfolding entered
entered-ordered r [] v h = (tt, (v, tt))
entered-ordered r (s ∷ ss) v h = either (compare_bytes r.key s.key) refl (entered-ordered r ss v h.1.1)
  where
    either : (o : Ordering) → compare_bytes r.key s.key ≡ o → OrderedMembers (members_of (entered r ss)) → OrderedMembers (members_of (entered_by o r s ss (entered r ss)))
    either Less e i = ((e, before_all r.key s.key (members_of ss) e h.0), (v, h))
    either Equal e i = (before_same r.key s.key (members_of ss) e h.0, (v, h.1.1))
    either Greater e i = (entered_before s.key r ss (compare_bytes_total.antisymm s.key r.key ∙ ap ordering_reverse e) h.0, (h.1.0, i))

pushed_ordered : (rows : List Row) (r : Row) → OrderedItems (items_of rows) → Ordered r.value → OrderedItems (items_of (rows ++ r ∷ []))
pushed_ordered [] r h v = (v, tt)
pushed_ordered (s ∷ rows) r h v = (h.0, pushed_ordered rows r h.1 v)

number_ordered : (minus : Bool) (n : ℕ) → Ordered (number_of minus n)
number_ordered true n = either (leb n (2 ^ 63))
  where
    either : (b : Bool) → Ordered (cond b (value.int (neg_ℤ (pos n))) (value.uint n))
    either true = tt
    either false = tt
number_ordered false n = either (ltb n (2 ^ 63))
  where
    either : (b : Bool) → Ordered (cond b (value.int (pos n)) (value.uint n))
    either true = tt
    either false = tt

mutual
  unfolding value_of

  pub values_ordered : ReadsOrdered
  values_ordered written.null = tt
  values_ordered (written.bool b) = tt
  values_ordered (written.number minus n) = number_ordered minus n
  values_ordered written.real = tt
  values_ordered (written.text cs) = tt
  values_ordered (written.list ts) = items_ordered ts
  values_ordered (written.object ms) = members-ordered ms

  pub items_ordered : (ts : Trees) → OrderedItems (items_of (item_rows ts))
  items_ordered written.nil = tt
  items_ordered (written.snoc ts v) = pushed_ordered (item_rows ts) (record { key = []; value = value_of v }) (items_ordered ts) (values_ordered v)

  pub members-ordered : (ms : Members) → OrderedMembers (members_of (member_rows ms))
  members-ordered written.none = tt
  members-ordered (written.with ms k v) = entered-ordered (record { key = k; value = value_of v }) (member_rows ms) (values_ordered v) (members-ordered ms)
