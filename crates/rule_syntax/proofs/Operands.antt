-- What a word says.
use Rattle.std.proofs.Common.{◌≡◌, ℕ, ◌+◌, ◌-◌, ◌*◌, ◌^◌, ◌<◌, ◌≤◌, Bool, true, false, cond, leb, List, [], ◌∷◌, length, get_or, drop, pos, neg_ℤ, Some, None, sym, refl, ap, ◌∙◌, arith}
use Rattle.std.proofs.lemmas.Bool.{eq-eqb, ne_eqb, leb-true}
use Rattle.std.specs.Option.{option_map}
use Rattle.std.specs.Char.{is_ascii_digit}
use Rattle.std.specs.Bool.{then_some}
use Rattle.fixed.specs.declared.slice.Slice.{Slice}
use Rattle.rule_syntax.specs.declared.rule.Operand.{Operand}
use Rattle.rule_syntax.specs.declared.rule.Operand.TheVariants.{Path}
use Rattle.rule_syntax.specs.Syntax.{int, path, meant_operand, part, magnitude, magnitude_from, number_of, numeric, constant_of, names_of, every_name, path_of, or_else, operand_of}
use Rattle.rule_syntax.proofs.Options.{not_some, some_same, cond_none}

pub number_minus : (w : List ℕ) → 0 < length w → get_or w 0 0 ≡ 45 → number_of w ≡ option_map (λ n. neg_ℤ (pos n)) (magnitude (2 ^ 63) (drop 1 w))
number_minus [] h e = absurd (omega arith)
number_minus (b ∷ s) h e = ap (λ c. cond c (option_map (λ n. neg_ℤ (pos n)) (magnitude (2 ^ 63) s)) (option_map pos (magnitude (2 ^ 63 - 1) (b ∷ s)))) (eq-eqb b 45 e)

pub number_plain : (w : List ℕ) → (0 < length w → get_or w 0 0 ≡ 45 → ⊥) → number_of w ≡ option_map pos (magnitude (2 ^ 63 - 1) w)
number_plain [] h = refl
number_plain (b ∷ s) h = ap (λ c. cond c (option_map (λ n. neg_ℤ (pos n)) (magnitude (2 ^ 63) s)) (option_map pos (magnitude (2 ^ 63 - 1) (b ∷ s)))) (ne_eqb b 45 (h (omega arith)))

magnitude_from-below : (m v : ℕ) (s : List ℕ) (n : ℕ) → v ≤ m → magnitude_from m v s ≡ Some n → n ≤ m
magnitude_from-below m v [] n h e = omega (arith, some_same v n e)
magnitude_from-below m v (b ∷ s) n h e =
    let d = cond_none (is_ascii_digit b) (cond (leb (v * 10 + (b - 48)) m) (magnitude_from m (v * 10 + (b - 48)) s) None) n e in
    let k = cond_none (leb (v * 10 + (b - 48)) m) (magnitude_from m (v * 10 + (b - 48)) s) n d.1 in
    magnitude_from-below m (v * 10 + (b - 48)) s n (leb-true (v * 10 + (b - 48)) m k.0) k.1

pub magnitude-below : (m : ℕ) (s : List ℕ) (n : ℕ) → magnitude m s ≡ Some n → n ≤ m
magnitude-below m [] n e = not_some n e
magnitude-below m (b ∷ s) n e = magnitude_from-below m 0 (b ∷ s) n (omega arith) e

-- ---- operands

pub operand_number : (w : List ℕ) → numeric w ≡ true → operand_of w ≡ option_map int (number_of w)
operand_number w e = ap (λ c. cond c (option_map int (number_of w)) (or_else (constant_of w) (path_of w))) e

pub operand_other : (w : List ℕ) → numeric w ≡ false → operand_of w ≡ or_else (constant_of w) (path_of w)
operand_other w e = ap (λ c. cond c (option_map int (number_of w)) (or_else (constant_of w) (path_of w))) e

pub operand_path : (w : List ℕ) → numeric w ≡ false → constant_of w ≡ None → every_name (names_of w) ≡ true → operand_of w ≡ Some (path (names_of w))
operand_path w n e p = operand_other w n ∙ ap (λ o. or_else o (path_of w)) e ∙ ap (λ c. cond c (Some (path (names_of w))) None) p

pub operand_ill : (w : List ℕ) → numeric w ≡ false → constant_of w ≡ None → every_name (names_of w) ≡ false → operand_of w ≡ None
operand_ill w n e p = operand_other w n ∙ ap (λ o. or_else o (path_of w)) e ∙ ap (λ c. cond c (Some (path (names_of w))) None) p

named_by : (s w : List ℕ) (b : Bool) (o : Operand) → numeric w ≡ false → constant_of w ≡ None → every_name (names_of w) ≡ b → meant_operand s o ≡ path (names_of w) → option_map (meant_operand s) (then_some b o) ≡ operand_of w
named_by s w true o n c e m = ap Some m ∙ sym (operand_path w n c e)
named_by s w false o n c e m = sym (operand_ill w n c e)

-- a word that is a path, if it is one
pub operand_named : (s : List ℕ) (p : Slice) (b : Bool) → numeric (part p s) ≡ false → constant_of (part p s) ≡ None → b ≡ every_name (names_of (part p s)) → option_map (meant_operand s) (then_some b (Path p)) ≡ operand_of (part p s)
operand_named s p b n c e = named_by s (part p s) b (Path p) n c (sym e) refl
