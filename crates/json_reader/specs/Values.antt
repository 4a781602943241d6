-- The value of what was written: integers by their size, and of members with one key the last.
use Rattle.std.specs.Prelude.{ℕ, ◌^◌, Bool, true, false, cond, List, [], ◌∷◌, ◌++◌, pos, neg_ℤ, nat_le, nat_lt}
use Rattle.std.specs.declared.cmp.Ordering.TheVariants.{Less, Equal, Greater}
use Rattle.std.specs.declared.cmp.Ordering.{Ordering}
use Rattle.json_values.specs.Meaning.{Row, items_of, members_of}
use Rattle.json_values.specs.Value.{Value}
use Rattle.json_values.specs.Value as value
use Rattle.json_scanner.specs.Grammar.{Tree, Trees, Members}
use Rattle.json_scanner.specs.Grammar as written
use Rattle.order.specs.Bytes.{compare_bytes}

-- an integer from -2^63 to 2^63 - 1 is signed, and one from 2^63 on is not
abbrev pub number_of : Bool → ℕ → Value
number_of true n = cond (nat_le n (2 ^ 63)) (value.int (neg_ℤ (pos n))) (value.uint n)
number_of false n = cond (nat_lt n (2 ^ 63)) (value.int (pos n)) (value.uint n)

abbrev pub entered_by : Ordering → Row → Row → List Row → List Row → List Row
entered_by Less r s ss rest = r ∷ s ∷ ss
entered_by Equal r s ss rest = r ∷ ss
entered_by Greater r s ss rest = s ∷ rest

-- a member among others whose keys ascend: it takes the place of the one that has its key
unfoldable pub entered : Row → List Row → List Row
entered r [] = r ∷ []
entered r (s ∷ ss) = entered_by (compare_bytes r.key s.key) r s ss (entered r ss)

unfoldable mutual
  -- the value of a text's tree
  pub value_of : Tree → Value
  value_of written.null = value.null
  value_of (written.bool b) = value.bool b
  value_of (written.number minus n) = number_of minus n
  value_of written.real = value.null
  value_of (written.text cs) = value.text cs
  value_of (written.list ts) = value.list (items_of (item_rows ts))
  value_of (written.object ms) = value.map (members_of (member_rows ms))

  pub item_rows : Trees → List Row
  item_rows written.nil = []
  item_rows (written.snoc ts v) = item_rows ts ++ record { key = []; value = value_of v } ∷ []

  pub member_rows : Members → List Row
  member_rows written.none = []
  member_rows (written.with ms k v) = entered (record { key = k; value = value_of v }) (member_rows ms)
