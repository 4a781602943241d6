-- Laws of going over values.
use Rattle.std.proofs.Common.{◌≡◌, ℕ, zero, suc, ◌+◌, ◌-◌, ◌<◌, ◌≤◌, Bool, true, false, cond, ◌&&◌, leb, List, [], ◌∷◌, length, take, drop, Some, None, Option, sym, refl, ap, arith, length-drop, w64, to_z}
use Rattle.image.proofs.Opts.{if_then, then_some}
use Rattle.std.proofs.lemmas.Option.{cond_some, none-some, same_Some}
use Rattle.image.specs.Commands.{command}
use Rattle.image.specs.Decode.{Head, Seen, eight, four, items, lone, members, number4, number8, operand, part, parts, seen, then}
use Rattle.image.specs.Typed.{Scalar, bool, bytes, duration, int, null, text, uint}
use Rattle.image.specs.declared.command.Command.{Command}
use Rattle.image.specs.declared.command.Command.TheVariants.{Null, False, True, Int, Uint, Empty, Text, Bytes, Duration, List as ListOf, Map, Present, Own, Old}
use Rattle.image_cursor.specs.Walking.{past, walk}

-- ---- a command takes bytes

eight_shorter : (f : ℕ → Scalar) (s : List ℕ) (c : Seen) → eight f s ≡ Some c → length c.rest ≤ length s
eight_shorter f s c e =
    let w = cond_some (leb 8 (length s)) (record { head = lone (f (number8 s)); rest = drop 8 s }) c e in
    omega (arith, ap (λ z. length z.rest) w.1, length-drop 8 s)

four_shorter : (f : ℕ → Head) (s : List ℕ) (c : Seen) → four f s ≡ Some c → length c.rest ≤ length s
four_shorter f s c e =
    let w = cond_some (leb 4 (length s)) (record { head = f (number4 s); rest = drop 4 s }) c e in
    omega (arith, ap (λ z. length z.rest) w.1, length-drop 4 s)

part_shorter : (f : List ℕ → Scalar) (s : List ℕ) (c : Seen) → part f s ≡ Some c → length c.rest ≤ length s
part_shorter f s c e =
    let w = cond_some (leb 4 (length s) && leb (number4 s) (length s - 4)) (record { head = lone (f (take (number4 s) (drop 4 s))); rest = drop (number4 s) (drop 4 s) }) c e in
    omega (arith, ap (λ z. length z.rest) w.1, length-drop (number4 s) (drop 4 s), length-drop 4 s)

plain_shorter : (h : Head) (s : List ℕ) (c : Seen) → Some (record { head = h; rest = s }) ≡ Some c → length c.rest ≤ length s
plain_shorter h s c e = omega (arith, ap (λ z. length z.rest) (same_Some (record { head = h; rest = s }) c e))

operand_shorter : (o : Option Command) (s : List ℕ) (c : Seen) → operand o s ≡ Some c → length c.rest ≤ length s
operand_shorter None s c e = absurd (none-some c e)
operand_shorter (Some Null) s c e = plain_shorter (lone null) s c e
operand_shorter (Some False) s c e = plain_shorter (lone (bool false)) s c e
operand_shorter (Some True) s c e = plain_shorter (lone (bool true)) s c e
operand_shorter (Some Int) s c e = eight_shorter (λ n. int (to_z w64 n)) s c e
operand_shorter (Some Uint) s c e = eight_shorter uint s c e
operand_shorter (Some Empty) s c e = absurd (none-some c e)
operand_shorter (Some Text) s c e = part_shorter text s c e
operand_shorter (Some Bytes) s c e = part_shorter bytes s c e
operand_shorter (Some Duration) s c e = eight_shorter (λ n. duration (to_z w64 n)) s c e
operand_shorter (Some ListOf) s c e = four_shorter items s c e
operand_shorter (Some Map) s c e = four_shorter members s c e
operand_shorter (Some Present) s c e = absurd (none-some c e)
operand_shorter (Some Own) s c e = absurd (none-some c e)
operand_shorter (Some Old) s c e = absurd (none-some c e)

pub seen_shorter : (s : List ℕ) (c : Seen) → seen s ≡ Some c → length c.rest < length s
unfolding seen
seen_shorter [] c e = absurd (none-some c e)
seen_shorter (b ∷ s) c e = omega (arith, operand_shorter (command b) s c e)

-- ---- as many turns as bytes are enough

module _ (ok : Head → List ℕ → Bool) where
  same_next : (s : List ℕ) (o : Option Seen) (k f g : ℕ) → seen s ≡ o → ((c : Seen) → seen s ≡ Some c → walk ok (parts c.head + k) f c.rest ≡ walk ok (parts c.head + k) g c.rest) → then o (λ c. cond (ok c.head c.rest) (walk ok (parts c.head + k) f c.rest) None) ≡ then o (λ c. cond (ok c.head c.rest) (walk ok (parts c.head + k) g c.rest) None)
  same_next s None k f g e h = refl
  same_next s (Some c) k f g e h = ap (λ w. cond (ok c.head c.rest) w None) (h c e)

  none_seen : (s : List ℕ) → length s ≡ 0 → seen s ≡ None
  unfolding seen
  none_seen [] h = refl
  none_seen (b ∷ s) h = absurd (let z : ⊥ = omega arith in z)

  enough : (k f g : ℕ) (s : List ℕ) → length s ≤ f → length s ≤ g → walk ok k f s ≡ walk ok k g s
  unfolding walk
  enough zero f g s p q = refl
  enough (suc k) zero zero s p q = refl
  enough (suc k) zero (suc g) s p q = ap (λ o. then o (λ c. cond (ok c.head c.rest) (walk ok (parts c.head + k) g c.rest) None)) (sym (none_seen s (omega arith)))
  enough (suc k) (suc f) zero s p q = ap (λ o. then o (λ c. cond (ok c.head c.rest) (walk ok (parts c.head + k) f c.rest) None)) (none_seen s (omega arith))
  enough (suc k) (suc f) (suc g) s p q =
      same_next s (seen s) k f g refl (λ c e. let l : length c.rest < length s = seen_shorter s c e in enough (parts c.head + k) f g c.rest (omega arith) (omega arith))

  pub past_none : (s : List ℕ) → past ok 0 s ≡ Some s
  unfolding past walk
  past_none s = refl

  step_by : (k : ℕ) (s : List ℕ) (n : ℕ) → n ≡ length s → walk ok (suc k) n s ≡ then (seen s) (λ c. cond (ok c.head c.rest) (past ok (parts c.head + k) c.rest) None)
  unfolding past walk
  step_by k s zero e = ap (λ o. then o (λ c. cond (ok c.head c.rest) (walk ok (parts c.head + k) (length c.rest) c.rest) None)) (sym (none_seen s (sym e)))
  step_by k s (suc n) e = by (seen s) refl
    where
      by : (o : Option Seen) → seen s ≡ o → then o (λ c. cond (ok c.head c.rest) (walk ok (parts c.head + k) n c.rest) None) ≡ then o (λ c. cond (ok c.head c.rest) (walk ok (parts c.head + k) (length c.rest) c.rest) None)
      by None q = refl
      by (Some c) q = let l : length c.rest < length s = seen_shorter s c q in ap (λ w. cond (ok c.head c.rest) w None) (enough (parts c.head + k) n (length c.rest) c.rest (omega arith) (omega arith))

  -- one command more
  pub past_more : (k : ℕ) (s : List ℕ) → past ok (suc k) s ≡ then (seen s) (λ c. cond (ok c.head c.rest) (past ok (parts c.head + k) c.rest) None)
  unfolding past
  past_more k s = step_by k s (length s) refl

  -- each value takes a byte
  walk_few : (k f : ℕ) (s r : List ℕ) → walk ok k f s ≡ Some r → k + length r ≤ length s
  unfolding walk
  walk_few zero f s r e = omega (arith, ap length (same_Some s r e))
  walk_few (suc k) zero s r e = absurd (none-some r e)
  walk_few (suc k) (suc f) s r e =
      let c = then_some (seen s) (λ c. cond (ok c.head c.rest) (walk ok (parts c.head + k) f c.rest) None) r e in
      let t = if_then (ok c.mid.head c.mid.rest) (walk ok (parts c.mid.head + k) f c.mid.rest) r c.gives in
      omega (arith, walk_few (parts c.mid.head + k) f c.mid.rest r t.1, seen_shorter s c.mid c.was)

  -- what stands behind a value is shorter
  pub past_shorter : (s r : List ℕ) → past ok 1 s ≡ Some r → length r < length s
  unfolding past
  past_shorter s r e = omega (arith, walk_few 1 (length s) s r e)

  too_many : (k : ℕ) (s : List ℕ) (o : Option (List ℕ)) → past ok k s ≡ o → length s < k → o ≡ None
  unfolding past
  too_many k s None e h = refl
  too_many k s (Some r) e h = absurd (let z : ⊥ = omega (arith, walk_few k (length s) s r e) in z)

  pub past_many : (k : ℕ) (s : List ℕ) → length s < k → past ok k s ≡ None
  past_many k s h = too_many k s (past ok k s) refl h
