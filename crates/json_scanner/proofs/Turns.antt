-- A turn of the scanner is a step of the machine.
use Rattle.std.proofs.Common.{◌≡◌, ℕ, ◌+◌, ◌<◌, List, length, get_or, drop, Ok, Err, Option, Result, sym, ap, ◌∙◌, arith}
use Rattle.std.proofs.lemmas.List.{at_drop_more, at_drop_all}
use Rattle.json_scanner.specs.declared.modes.Fault.{Fault}
use Rattle.json_scanner.specs.declared.modes.Numeral.{Numeral}
use Rattle.json_scanner.specs.declared.modes.Step.{Step}
use Rattle.json_scanner.specs.Bytes.{then}
use Rattle.json_scanner.specs.Machine.{Control, turned, left_with, scan, finish, forgotten}

first : {X Y : Type 0} (x y : X × Y) → x ≡ y → x.0 ≡ y.0
first {X} {Y} x y e = ap (λ (z : X × Y). z.0) e

other : {X Y : Type 0} (x y : X × Y) → x ≡ y → x.1 ≡ y.1
other {X} {Y} x y e = ap (λ (z : X × Y). z.1) e

pub left_ok : (c d : Control) (s : Step) (t : Result (Control × Step) Fault) → (d, Ok s) ≡ left_with c t → t ≡ Ok (d, s)
left_ok c d s (Ok x) e =
    let p : d ≡ x.0 = first (d, Ok s) (x.0, Ok x.1) e in
    let o : Ok s ≡ Ok x.1 = other (d, Ok s) (x.0, Ok x.1) e in
    let q : s ≡ x.1 = cc in
    λ i. Ok (sym p i, sym q i)
left_ok c d s (Err f) e = let o : Ok s ≡ Err f = other (d, Ok s) (c, Err f) e in cc

pub left_err : (c d : Control) (f : Fault) (t : Result (Control × Step) Fault) → (d, Err f) ≡ left_with c t → t ≡ Err f
left_err c d f (Ok x) e = let o : Err f ≡ Ok x.1 = other (d, Err f) (x.0, Ok x.1) e in cc
left_err c d f (Err g) e = let o : ◌≡◌ {A = Result Step Fault} (Err f) (Err g) = other (d, Err f) (c, Err g) e in let p : f ≡ g = cc in ap Err (sym p)

module _ (s : List ℕ) (i : ℕ) (c d : Control) (lt : i < length s) where
  pub scan-next : (x : Step) → (d, Ok x) ≡ left_with c (turned i c (get_or s i 0)) → scan c i (drop i s) ≡ scan d (i + 1) (drop (i + 1) s)
  scan-next x e = at_drop_more (scan c i) s i 0 lt ∙ ap (λ r. then r (λ y. scan y.0 (i + 1) (drop (i + 1) s))) (left_ok c d x (turned i c (get_or s i 0)) e)

  pub scan_stop : (f : Fault) → (d, Err f) ≡ left_with c (turned i c (get_or s i 0)) → scan c i (drop i s) ≡ Err f
  scan_stop f e = at_drop_more (scan c i) s i 0 lt ∙ ap (λ r. then r (λ y. scan y.0 (i + 1) (drop (i + 1) s))) (left_err c d f (turned i c (get_or s i 0)) e)

scan_all : (s : List ℕ) (i : ℕ) (c : Control) → i ≡ length s → scan c i (drop i s) ≡ finish (length s) c
scan_all s i c e = at_drop_all (scan c i) s i (omega arith) ∙ ap (λ n. finish n c) e

-- the answer at the end, where x is what the whole text answers
pub scan-ended : (s : List ℕ) (i : ℕ) (c : Control) (x r : Result (Option Numeral) Fault) → x ≡ scan c i (drop i s) → i ≡ length s → r ≡ finish (length s) c → forgotten r ≡ forgotten x
scan-ended s i c x r inv e h = ap forgotten (h ∙ sym (inv ∙ scan_all s i c e))
