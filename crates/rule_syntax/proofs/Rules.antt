-- A rule is read one comparison at a time.
use Rattle.std.proofs.Common.{◌≡◌, ℕ, zero, suc, ◌+◌, ◌<◌, ◌≤◌, Bool, true, false, cond, eqb, List, [], ◌∷◌, ◌++◌, map, length, take, drop, Some, None, codes, MatchResult, Ok, Err, Option, Result, sym, refl, ap, ◌∙◌, subst, append_assoc, arith, length-append, length-drop, length-take}
use Rattle.std.proofs.lemmas.List.{append-nil, take-append-le, map-append, length_push, take_all}
use Rattle.std.proofs.lemmas.Bool.{eq-eqb, ne_eqb}
use Rattle.std.specs.Result.{result_and}
use Rattle.fixed.specs.Room.{Extends}
use Rattle.fixed.specs.declared.refusal.Full as refusal
use Rattle.rule_syntax.specs.declared.rule.Comparison.{Comparison}
use Rattle.rule_syntax.specs.declared.rule.Refused.{Refused}
use Rattle.rule_syntax.specs.declared.rule.Refused.TheVariants.{Syntax, Full}
use Rattle.rule_syntax.specs.Syntax.{Compared, Filled, left_by, reads, then, begins, leading_comparison, behind_and, rule_from, parsed, meant}
use Rattle.rule_syntax.proofs.Options.{not_some, some_same}
use Rattle.rule_syntax.proofs.Readers.{within_length, comparison_within}

-- what is done behind a comparison
abbrev pub goes_on : ℕ → List Compared → Compared × List ℕ → Option (List Compared)
goes_on k done c = cond (eqb (length c.1) 0) (Some (done ++ c.0 ∷ [])) (then (behind_and c.1) (λ t. rule_from k (done ++ c.0 ∷ []) t))

pub rule_turn : (k : ℕ) (done : List Compared) (s : List ℕ) → rule_from (suc k) done s ≡ then (leading_comparison s) (goes_on k done)
unfolding rule_from
rule_turn k done s = refl

pub rule_zero : (done : List Compared) (s : List ℕ) → rule_from 0 done s ≡ None
unfolding rule_from
rule_zero done s = refl

pub rule_stuck : (k : ℕ) (done : List Compared) (s : List ℕ) → leading_comparison s ≡ None → rule_from k done s ≡ None
rule_stuck zero done s e = rule_zero done s
rule_stuck (suc k) done s e = rule_turn k done s ∙ ap (λ o. then o (goes_on k done)) e

pub rule_end : (k : ℕ) (done : List Compared) (s : List ℕ) (c : Compared × List ℕ) → 0 < k → leading_comparison s ≡ Some c → length c.1 ≡ 0 → rule_from k done s ≡ Some (done ++ c.0 ∷ [])
rule_end zero done s c h e z = absurd (omega arith)
rule_end (suc k) done s c h e z =
    rule_turn k done s ∙ ap (λ o. then o (goes_on k done)) e
    ∙ ap (λ b. cond b (Some (done ++ c.0 ∷ [])) (then (behind_and c.1) (λ t. rule_from k (done ++ c.0 ∷ []) t))) (eq-eqb (length c.1) 0 z)

pub rule_and : (k : ℕ) (done : List Compared) (s : List ℕ) (c : Compared × List ℕ) → leading_comparison s ≡ Some c → 0 < length c.1 → rule_from (suc k) done s ≡ then (behind_and c.1) (λ t. rule_from k (done ++ c.0 ∷ []) t)
rule_and k done s c e h =
    rule_turn k done s ∙ ap (λ o. then o (goes_on k done)) e
    ∙ ap (λ b. cond b (Some (done ++ c.0 ∷ [])) (then (behind_and c.1) (λ t. rule_from k (done ++ c.0 ∷ []) t))) (ne_eqb (length c.1) 0 (λ z. omega arith))

pub rule_ill : (k : ℕ) (done : List Compared) (s : List ℕ) (c : Compared × List ℕ) → leading_comparison s ≡ Some c → 0 < length c.1 → behind_and c.1 ≡ None → rule_from k done s ≡ None
rule_ill zero done s c e h a = rule_zero done s
rule_ill (suc k) done s c e h a = rule_and k done s c e h ∙ ap (λ o. then o (λ t. rule_from k (done ++ c.0 ∷ []) t)) a

pub rule_next : (k : ℕ) (done : List Compared) (s : List ℕ) (c : Compared × List ℕ) (t : List ℕ) → leading_comparison s ≡ Some c → 0 < length c.1 → behind_and c.1 ≡ Some t → rule_from (suc k) done s ≡ rule_from k (done ++ c.0 ∷ []) t
rule_next k done s c t e h a = rule_and k done s c e h ∙ ap (λ o. then o (λ t. rule_from k (done ++ c.0 ∷ []) t)) a

-- ---- `&&`

and_by : (s t : List ℕ) (b : Bool) → cond b (Some (drop 2 s)) None ≡ Some t → (b ≡ true) × (drop 2 s ≡ t)
and_by s t true e = (refl, some_same (drop 2 s) t e)
and_by s t false e = not_some t e

pub and_parts_of : (s t : List ℕ) → behind_and s ≡ Some t → (begins (codes "&&") s ≡ true) × (drop 2 s ≡ t)
and_parts_of s t e = and_by s t (begins (codes "&&") s) e

pub and_shorter : (s t : List ℕ) → behind_and s ≡ Some t → 0 < length s → length t < length s
and_shorter s t e h = omega (arith, ap length (and_parts_of s t e).1, length-drop 2 s)

-- ---- the table

-- what stands in the table once cs have been read, and whether it has had room so far
pub record Tabled (most : ℕ) (before : List Comparison) (room : Result (Unit {0}) refusal.Full) (table cs : List Comparison) : Type 0 where
  pub kept : take (length before) table ≡ before
  pub state : MatchResult room (λ _. table ≡ before ++ cs) (λ _. most < length before + length cs)

pub tabled_start : (most : ℕ) (before : List Comparison) → Tabled most before (Ok tt) before []
tabled_start most before = record { kept = take_all (length before) before (omega arith); state = sym (append-nil before) }

long : (before table : List Comparison) → take (length before) table ≡ before → length before ≤ length table
long before table e = omega (arith, ap length e, length-take (length before) table)

still_kept : (before table more : List Comparison) → take (length before) table ≡ before → take (length before) (table ++ more) ≡ before
still_kept before table more e = take-append-le (length before) table more (long before table e) ∙ e

by_table : (most : ℕ) (before : List Comparison) (room pushed : Result (Unit {0}) refusal.Full) (table table' cs : List Comparison) (c : Comparison)
    → Extends most table (c ∷ []) pushed table' → Tabled most before room table cs → Tabled most before (result_and room pushed) table' (cs ++ c ∷ [])
by_table most before (Ok u) (Ok v) table table' cs c e h = record {
  kept = ap (take (length before)) e.2 ∙ still_kept before table (c ∷ []) h.kept;
  state = e.2 ∙ ap (λ t. t ++ c ∷ []) h.state ∙ append_assoc before cs (c ∷ []);
}
by_table most before (Ok u) (Err f) table table' cs c e h = record {
  kept = ap (take (length before)) e.1 ∙ h.kept;
  state = omega (arith, e.0, ap length h.state, length-append before cs, length_push cs c);
}
by_table most before (Err f) (Ok v) table table' cs c e h = record {
  kept = ap (take (length before)) e.2 ∙ still_kept before table (c ∷ []) h.kept;
  state = omega (arith, h.state, length_push cs c);
}
by_table most before (Err f) (Err k) table table' cs c e h = record { kept = ap (take (length before)) e.1 ∙ h.kept; state = omega (arith, h.state, length_push cs c) }

pub tabled_more : (most : ℕ) (before : List Comparison) (room pushed room' : Result (Unit {0}) refusal.Full) (table table' cs : List Comparison) (c : Comparison)
    → room' ≡ result_and room pushed → Extends most table (c ∷ []) pushed table' → Tabled most before room table cs → Tabled most before room' table' (cs ++ c ∷ [])
tabled_more most before room pushed room' table table' cs c e x h = subst (λ o. Tabled most before o table' (cs ++ c ∷ [])) (sym e) (by_table most before room pushed table table' cs c x h)

-- ---- what a reader has read

-- a comparison c of the expression s, with t behind it
pub comparison_read : (s e rest t : List ℕ) (o : Option Comparison) (c : Comparison) → reads (meant e) o t ≡ leading_comparison rest → o ≡ Some c → e ≡ s → leading_comparison rest ≡ Some (meant s c, t)
comparison_read s e rest t o c read some same = sym read ∙ ap (λ o. reads (meant e) o t) some ∙ ap (λ x. Some (meant x c, t)) same

pub and_passed : (t u : List ℕ) (o p : Option (Unit {0})) → left_by o u ≡ behind_and t → o ≡ p → behind_and t ≡ left_by p u
and_passed t u o p read same = sym read ∙ ap (λ o. left_by o u) same

-- ---- a rule on its way

pub record Going (s : List ℕ) (cs : List Comparison) (rest : List ℕ) : Type 0 where
  pub turns : ℕ
  pub enough : length rest < turns
  pub same : parsed s ≡ rule_from turns (map (meant s) cs) rest

pub going_start : (s : List ℕ) → Going s [] s
unfolding parsed
going_start s = record { turns = length s + 1; enough = omega arith; same = refl }

pub going_stuck : (s : List ℕ) (cs : List Comparison) (rest : List ℕ) → Going s cs rest → leading_comparison rest ≡ None → parsed s ≡ None
going_stuck s cs rest g e = g.same ∙ rule_stuck g.turns (map (meant s) cs) rest e

read_more : (s : List ℕ) (cs : List Comparison) (c : Comparison) → map (meant s) cs ++ meant s c ∷ [] ≡ map (meant s) (cs ++ c ∷ [])
read_more s cs c = sym (map-append (meant s) cs (c ∷ []))

pub going_end : (s : List ℕ) (cs : List Comparison) (rest : List ℕ) (c : Comparison) (t : List ℕ) → Going s cs rest → leading_comparison rest ≡ Some (meant s c, t) → length t ≡ 0 → parsed s ≡ Some (map (meant s) (cs ++ c ∷ []))
going_end s cs rest c t g e z = g.same ∙ rule_end g.turns (map (meant s) cs) rest (meant s c, t) (omega (arith, g.enough)) e z ∙ ap (λ x. Some x) (read_more s cs c)

pub going_ill : (s : List ℕ) (cs : List Comparison) (rest : List ℕ) (c : Comparison) (t : List ℕ) → Going s cs rest → leading_comparison rest ≡ Some (meant s c, t) → 0 < length t → behind_and t ≡ None → parsed s ≡ None
going_ill s cs rest c t g e h a = g.same ∙ rule_ill g.turns (map (meant s) cs) rest (meant s c, t) e h a

next_by : (s : List ℕ) (cs : List Comparison) (rest : List ℕ) (c : Comparison) (t u : List ℕ) (k : ℕ) → length rest < k → parsed s ≡ rule_from k (map (meant s) cs) rest
    → leading_comparison rest ≡ Some (meant s c, t) → 0 < length t → behind_and t ≡ Some u → Going s (cs ++ c ∷ []) u
next_by s cs rest c t u zero few same e h a = absurd (omega arith)
next_by s cs rest c t u (suc k) few same e h a =
    let w = comparison_within rest (meant s c, t) e in
    record {
      turns = k;
      enough = omega (arith, within_length rest t w, and_shorter t u a h);
      same = same ∙ rule_next k (map (meant s) cs) rest (meant s c, t) u e h a ∙ ap (λ d. rule_from k d u) (read_more s cs c);
    }

pub going_next : (s : List ℕ) (cs : List Comparison) (rest : List ℕ) (c : Comparison) (t u : List ℕ) → Going s cs rest → leading_comparison rest ≡ Some (meant s c, t) → 0 < length t → behind_and t ≡ Some u → Going s (cs ++ c ∷ []) u
going_next s cs rest c t u g e h a = next_by s cs rest c t u g.turns g.enough g.same e h a

-- ---- what is answered

pub filled_syntax : (most : ℕ) (s : List ℕ) (before after : List Comparison) (r : Result (Unit {0}) Refused) → r ≡ Err Syntax → parsed s ≡ None → take (length before) after ≡ before → Filled most s before r after
filled_syntax most s before after r e none kept = subst (λ x. Filled most s before x after) (sym e) (none, kept)

pub filled_read : (most : ℕ) (s : List ℕ) (before after cs : List Comparison) (room : Result (Unit {0}) refusal.Full) (r : Result (Unit {0}) Refused)
    → MatchResult room (λ u. r ≡ Ok u) (λ _. r ≡ Err Full) → parsed s ≡ Some (map (meant s) cs) → Tabled most before room after cs → Filled most s before r after
filled_read most s before after cs (Ok u) r m e t = subst (λ x. Filled most s before x after) (sym m) (cs, e, t.state)
filled_read most s before after cs (Err f) r m e t = subst (λ x. Filled most s before x after) (sym m) (cs, e, t.state, t.kept)
