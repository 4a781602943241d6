-- Decimal digits written from the last to the first.
use Rattle.std.proofs.Common.{◌≡◌, ℕ, ◌+◌, ◌-◌, ◌/◌, ◌%◌, ◌^◌, ◌<◌, ◌≤◌, List, [], ◌∷◌, ◌++◌, length, drop, set, decimal, sym, ap, ◌∙◌, append_assoc, append-nil, arith, length-append, length-drop, length-set, drop_of_length-le}
use Rattle.std.proofs.lemmas.List.{drop-set}
use Rattle.std.proofs.lemmas.Fmt.{decimal_step, decimal_digit, decimal_nonempty, length-decimal-le}

-- what is left of a number whose last digits stand from a place on
pub record Spelling (n left from : ℕ) (ds : List ℕ) : Type 0 where
  pub so : decimal n ≡ decimal left ++ drop from ds
  pub upto : from ≤ 20
  pub lower : left ≤ n
  pub long : length ds ≡ 20

pub begun : (n : ℕ) (ds : List ℕ) → length ds ≡ 20 → Spelling n n 20 ds
begun n ds long = record {
  so = sym (ap (λ d. decimal n ++ d) (drop_of_length-le ds {i = 20} (omega arith)) ∙ append-nil (decimal n));
  upto = omega arith;
  lower = omega arith;
  long = long;
}

-- there is room for the digits that are left
pub room : (n left from : ℕ) (ds : List ℕ) → n < 2 ^ 64 → Spelling n left from ds → length (decimal left) ≤ from
room n left from ds small s =
    let a = length-decimal-le 20 n (omega arith) (omega arith) small in
    let b = ap length s.so ∙ length-append (decimal left) (drop from ds) in
    omega (arith, length-drop from ds)

-- and so for one
pub room_some : (n left from : ℕ) (ds : List ℕ) → n < 2 ^ 64 → Spelling n left from ds → 1 ≤ from
room_some n left from ds small s = omega (arith, room n left from ds small s, decimal_nonempty left (omega arith))

module _ (n left from : ℕ) (ds : List ℕ) (small : n < 2 ^ 64) (s : Spelling n left from ds) where
  one_down : (b : ℕ) → drop (from - 1) (set ds (from - 1) b) ≡ b ∷ drop from ds
  one_down b =
      let some = room_some n left from ds small s in
      let e : from - 1 + 1 ≡ from = omega arith in
      drop-set ds (from - 1) b (omega arith) ∙ ap (λ k. b ∷ drop k ds) e

  -- one digit more
  pub digit_more : 10 ≤ left → Spelling n (left / 10) (from - 1) (set ds (from - 1) (48 + left % 10))
  digit_more h = record {
    so = s.so ∙ (ap (λ d. d ++ drop from ds) (decimal_step left h (omega arith)) ∙ (append_assoc (decimal (left / 10)) ((48 + left % 10) ∷ []) (drop from ds) ∙ ap (λ d. decimal (left / 10) ++ d) (sym (one_down (48 + left % 10)))));
    upto = omega arith;
    lower = omega arith;
    long = simp length-set s.long;
  }

  -- the first digit, written last
  pub digit_first : left < 10 → drop (from - 1) (set ds (from - 1) (48 + left % 10)) ≡ decimal n
  digit_first h =
      let one : left % 10 ≡ left = omega arith in
      one_down (48 + left % 10) ∙ (ap (λ k. (48 + k) ∷ drop from ds) one ∙ (ap (λ d. d ++ drop from ds) (sym (decimal_digit left h)) ∙ sym s.so))
