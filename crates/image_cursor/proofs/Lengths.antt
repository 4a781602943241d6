-- What is found in a map is shorter than the map.
use Rattle.std.proofs.Common.{◌≡◌, ℕ, zero, suc, ◌<◌, ◌≤◌, Bool, true, false, cond, List, length, Some, ap, arith}
use Rattle.image.proofs.Opts.{then_some}
use Rattle.std.proofs.lemmas.Option.{none-some, same_Some}
use Rattle.image.specs.Decode.{Head, items, lone, members, seen, then}
use Rattle.image_cursor.proofs.Walks.{past_shorter, seen_shorter}
use Rattle.image_cursor.specs.Walking.{Keyed, any, head_text, key_seen, looked_in, looked_up, skipped, sought}
use Rattle.order.specs.Bytes.{compare_bytes}
use Rattle.std.specs.Ordering.{is_eq}

key_shorter : (s : List ℕ) (k : Keyed) → key_seen s ≡ Some k → length k.rest < length s
key_shorter s k e =
    let c = then_some (seen s) (λ c. then (head_text c.head) (λ k. Some (record { key = k; rest = c.rest }))) k e in
    let t = then_some (head_text c.mid.head) (λ k. Some (record { key = k; rest = c.mid.rest })) k c.gives in
    omega (arith, ap (λ z. length z.rest) (same_Some (record { key = t.mid; rest = c.mid.rest }) k t.gives), seen_shorter s c.mid c.was)

one_shorter : (n : ℕ) (key : List ℕ) (k : Keyed) (s r : List ℕ) → ((t q : List ℕ) → looked_up n key t ≡ Some q → length q ≤ length t) → length k.rest < length s → (t : Bool) → cond t (Some k.rest) (then (skipped k.rest) (looked_up n key)) ≡ Some r → length r ≤ length s
one_shorter n key k s r ih h true e = omega (arith, ap length (same_Some k.rest r e))
one_shorter n key k s r ih h false e =
    let t = then_some (skipped k.rest) (looked_up n key) r e in
    omega (arith, past_shorter any k.rest t.mid t.was, ih t.mid r t.gives)

looked_shorter : (n : ℕ) (key s r : List ℕ) → looked_up n key s ≡ Some r → length r ≤ length s
unfolding looked_up
looked_shorter zero key s r e = absurd (none-some r e)
looked_shorter (suc n) key s r e =
    let k = then_some (key_seen s) (λ k. cond (is_eq (compare_bytes k.key key)) (Some k.rest) (then (skipped k.rest) (looked_up n key))) r e in
    one_shorter n key k.mid s r (λ t q p. looked_shorter n key t q p) (key_shorter s k.mid k.was) (is_eq (compare_bytes k.mid.key key)) k.gives

in_head_shorter : (h : Head) (key s r : List ℕ) → looked_in key (record { head = h; rest = s }) ≡ Some r → length r ≤ length s
in_head_shorter (lone x) key s r e = absurd (none-some r e)
in_head_shorter (items n) key s r e = absurd (none-some r e)
in_head_shorter (members n) key s r e = looked_shorter n key s r e

pub sought_shorter : (key s r : List ℕ) → sought key s ≡ Some r → length r < length s
sought_shorter key s r e =
    let c = then_some (seen s) (looked_in key) r e in
    omega (arith, seen_shorter s c.mid c.was, in_head_shorter c.mid.head key c.mid.rest r c.gives)
