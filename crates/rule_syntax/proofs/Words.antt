-- Words, spaces and points, by the first place that the library finds.
use Rattle.std.proofs.Common.{◌≡◌, ℕ, suc, ◌+◌, Bool, true, false, cond, not, eqb, ltb, List, [], ◌∷◌, length, take, drop, Some, None, Option, unwrap_or, sym, refl, ap, ◌∙◌, one-add, arith}
use Rattle.std.proofs.lemmas.Bool.Decides.{nat_tests}
use Rattle.std.proofs.lemmas.Bool.{lt-ltb}
use Rattle.std.proofs.lemmas.List.{take_all}
use Rattle.std.proofs.lemmas.List.Sums.{prefix_len-le-length}
use Rattle.std.specs.List.{position, position_or_len, prefix_len}
use Rattle.rule_syntax.specs.Syntax.{before_dot, past_dot}

-- the first byte that fails p, or else the end
twice_not_by : (c : Bool) (n m : ℕ) → n ≡ m → cond (not (not c)) (1 + n) 0 ≡ cond c (1 + m) 0
twice_not_by true n m e = ap (λ k. 1 + k) e
twice_not_by false n m e = refl

twice_not : (p : ℕ → Bool) (s : List ℕ) → prefix_len (λ b. not (not (p b))) s ≡ prefix_len p s
twice_not p [] = refl
twice_not p (b ∷ s) = twice_not_by (p b) (prefix_len (λ b. not (not (p b))) s) (prefix_len p s) (twice_not p s)

found_or_end : (n m : ℕ) (c : Bool) → ltb n m ≡ c → (c ≡ false → m ≡ n) → unwrap_or (cond c (Some n) None) m ≡ n
found_or_end n m true e h = refl
found_or_end n m false e h = h refl

pub prefix_found : (p : ℕ → Bool) (s : List ℕ) (r : Option ℕ) (n : ℕ) → r ≡ position (λ b. not (p b)) s → n ≡ unwrap_or r (length s) → n ≡ prefix_len p s
prefix_found p s r n e k =
    let m = position_or_len (λ b. not (p b)) s in
    let most = prefix_len-le-length (λ b. not (not (p b))) s in
    k ∙ ap (λ o. unwrap_or o (length s)) e ∙ found_or_end m (length s) (ltb m (length s)) refl (λ f. grind (arith, nat_tests)) ∙ twice_not p s

-- ---- points

abbrev pub point : ℕ → Bool
point b = eqb b 46

before_by : (b : ℕ) (s : List ℕ) (c : Bool) → before_dot s ≡ take (position_or_len point s) s → cond c [] (b ∷ before_dot s) ≡ take (cond (not c) (1 + position_or_len point s) 0) (b ∷ s)
before_by b s true e = refl
before_by b s false e = ap (λ t. b ∷ t) e ∙ ap (λ n. take n (b ∷ s)) (sym (one-add (position_or_len point s)))

before_is : (s : List ℕ) → before_dot s ≡ take (position_or_len point s) s
before_is [] = refl
before_is (b ∷ s) = before_by b s (point b) (before_is s)

-- the text behind the n-th byte, if there is one
abbrev behind : ℕ → List ℕ → Option (List ℕ)
behind n s = cond (ltb n (length s)) (Some (drop (n + 1) s)) None

behind_more : (b : ℕ) (s : List ℕ) (n : ℕ) → behind n s ≡ behind (1 + n) (b ∷ s)
behind_more b s n =
    let below : ltb n (length s) ≡ ltb (1 + n) (length (b ∷ s)) = grind (arith, nat_tests) in
    let k : 1 + n + 1 ≡ suc (n + 1) = omega arith in
    let left : drop (n + 1) s ≡ drop (1 + n + 1) (b ∷ s) = sym (ap (λ m. drop m (b ∷ s)) k) in
    λ i. cond (below i) (Some (left i)) None

past_by : (b : ℕ) (s : List ℕ) (c : Bool) → past_dot s ≡ behind (position_or_len point s) s → cond c (Some s) (past_dot s) ≡ behind (cond (not c) (1 + position_or_len point s) 0) (b ∷ s)
past_by b s true e = sym (ap (λ c. cond c (Some s) None) (lt-ltb 0 (length (b ∷ s)) (omega arith)))
past_by b s false e = e ∙ behind_more b s (position_or_len point s)

past_is : (s : List ℕ) → past_dot s ≡ behind (position_or_len point s) s
past_is [] = refl
past_is (b ∷ s) = past_by b s (point b) (past_is s)

-- the first point stands at i, or there is none
point_by : (s : List ℕ) (i n : ℕ) (c : Bool) → Some i ≡ cond c (Some n) None → ltb n (length s) ≡ c → (i ≡ n) × (behind n s ≡ Some (drop (i + 1) s))
point_by s i n true e h = let z : i ≡ n = cc in (z, ap (λ c. cond c (Some (drop (n + 1) s)) None) h ∙ ap (λ k. Some (drop (k + 1) s)) (sym z))
point_by s i n false e h = let z : ◌≡◌ {A = ℕ} 0 1 = cc in absurd (omega arith)

pub point_found : (s : List ℕ) (i : ℕ) → Some i ≡ position point s → (before_dot s ≡ take i s) × (past_dot s ≡ Some (drop (i + 1) s))
point_found s i e =
    let n = position_or_len point s in
    let p = point_by s i n (ltb n (length s)) e refl in
    (before_is s ∙ ap (λ k. take k s) (sym p.0), past_is s ∙ p.1)

none_by : (s : List ℕ) (n : ℕ) (c : Bool) → None ≡ cond c (Some n) None → ltb n (length s) ≡ c → (take n s ≡ s) × (behind n s ≡ None)
none_by s n true e h = let z : ◌≡◌ {A = ℕ} 0 1 = cc in absurd (omega arith)
none_by s n false e h = (take_all n s (grind (arith, nat_tests)), ap (λ c. cond c (Some (drop (n + 1) s)) None) h)

pub point_missing : (s : List ℕ) → None ≡ position point s → (before_dot s ≡ s) × (past_dot s ≡ None)
point_missing s e =
    let n = position_or_len point s in
    let p = none_by s n (ltb n (length s)) e refl in
    (before_is s ∙ p.0, past_is s ∙ p.1)
