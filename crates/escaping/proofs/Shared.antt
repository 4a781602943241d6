-- What is alike at the front of two names is alike at the front of their escapes.
use Rattle.std.proofs.Common.{◌≡◌, ℕ, ◌+◌, ◌-◌, ◌<◌, ◌≤◌, Bool, true, false, not, cond, ◌&&◌, eqb, ltb, Bor, Some, None, Option, IfSome, ⊎_elim, List, [], ◌∷◌, ◌++◌, length, get_or, take, drop, codes, Less, Equal, Greater, sym, refl, ap, ◌∙◌, append-nil, arith, eq-eqb, eqb-true, ne_eqb, Ordering}
use Rattle.std.specs.Option.{is_some, option_eq}
use Rattle.std.proofs.Math.Nat.{eq-or-lt_of_le}
use Rattle.std.proofs.lemmas.Bool.{false≢true, ltb-true, not-false}
use Rattle.std.proofs.lemmas.Bool.Decides.{nat_tests}
use Rattle.std.proofs.lemmas.List.{drop_more, get_or_read_under, take_rest}
use Rattle.order.proofs.Bytewise.{bytes_same}
use Rattle.order.specs.Bytes.{compare_bytes}
use Rattle.escaping.specs.Escape.{escape, replaced, reserved, sign}
use Rattle.escaping.specs.Left.{spelled}
use Rattle.escaping.proofs.Walk.{spelled_word}
use Rattle.escaping.proofs.Collide.{no_collision}

by_same : (x : ℕ) (o : Ordering) → cond (ltb x x) Less (cond (eqb x x) o Greater) ≡ o
by_same x o = grind (arith, nat_tests)

alike : (w s t : List ℕ) → compare_bytes (w ++ s) (w ++ t) ≡ compare_bytes s t
unfolding compare_bytes
alike [] s t = refl
alike (x ∷ w) s t = by_same x (compare_bytes (w ++ s) (w ++ t)) ∙ alike w s t

by_first : (x y : ℕ) (s : List ℕ) (p q : Bool) → p ≡ false → cond (p && q) (codes "__underscores__" ++ replaced s) (sign x ++ replaced (y ∷ s)) ≡ sign x ++ replaced (y ∷ s)
by_first x y s p q e = ap (λ t. cond (t && q) (codes "__underscores__" ++ replaced s) (sign x ++ replaced (y ∷ s))) e

-- a sign that is no underscore stands for itself
first_apart : (x : ℕ) (s : List ℕ) → (x ≡ 95 → ⊥) → replaced (x ∷ s) ≡ sign x ++ replaced s
unfolding replaced
first_apart x [] n = sym (append-nil (sign x))
first_apart x (y ∷ s) n = by_first x y s (eqb x 95) (eqb y 95) (ne_eqb x 95 n)

-- two bytes, the first of them an underscore
after_underscore : ℕ → List ℕ
after_underscore x = cond (eqb x 95) (codes "__underscores__") (95 ∷ sign x)

by_second : (x : ℕ) (s : List ℕ) (p : Bool) → eqb x 95 ≡ p → cond p (codes "__underscores__" ++ replaced s) (95 ∷ replaced (x ∷ s)) ≡ cond p (codes "__underscores__") (95 ∷ sign x) ++ replaced s
by_second x s true e = refl
by_second x s false e = ap (λ t. 95 ∷ t) (first_apart x s (λ h. absurd (false≢true (sym e ∙ eq-eqb x 95 h))))

two_split : (x : ℕ) (s : List ℕ) → replaced (95 ∷ (x ∷ s)) ≡ after_underscore x ++ replaced s
unfolding replaced after_underscore
two_split x s = by_second x s (eqb x 95) refl

one_more : (x : ℕ) (s t : List ℕ) → (x ≡ 95 → ⊥) → compare_bytes (replaced s) (replaced t) ≡ compare_bytes (replaced (x ∷ s)) (replaced (x ∷ t))
one_more x s t n = sym ((λ i. compare_bytes (first_apart x s n i) (first_apart x t n i)) ∙ alike (sign x) (replaced s) (replaced t))

two_more : (x : ℕ) (s t : List ℕ) → compare_bytes (replaced s) (replaced t) ≡ compare_bytes (replaced (95 ∷ (x ∷ s))) (replaced (95 ∷ (x ∷ t)))
two_more x s t = sym ((λ i. compare_bytes (two_split x s i) (two_split x t i)) ∙ alike (after_underscore x) (replaced s) (replaced t))

-- ---- in a name

-- how what stands behind a place of two names compares, once written out
abbrev pub behind : List ℕ → List ℕ → ℕ → Ordering
behind a b k = compare_bytes (replaced (drop k a)) (replaced (drop k b))

begins : (a : List ℕ) (k x : ℕ) → k < length a → get_or a k 0 ≡ x → drop k a ≡ x ∷ drop (k + 1) a
begins a k x h e = drop_more a k 0 h ∙ ap (λ y. y ∷ drop (k + 1) a) e

-- a sign is passed
pub one_passed : (a b : List ℕ) (k x : ℕ) → k < length a → k < length b → get_or a k 0 ≡ x → get_or b k 0 ≡ x → (x ≡ 95 → ⊥) → behind a b (k + 1) ≡ behind a b k
one_passed a b k x h l e f n =
    one_more x (drop (k + 1) a) (drop (k + 1) b) n ∙ sym (λ i. compare_bytes (replaced (begins a k x h e i)) (replaced (begins b k x l f i)))

-- an underscore and the byte behind it are passed
pub two_passed : (a b : List ℕ) (k x : ℕ) → k + 1 < length a → k + 1 < length b → get_or a k 0 ≡ 95 → get_or b k 0 ≡ 95 → get_or a (k + 1) 0 ≡ x → get_or b (k + 1) 0 ≡ x → behind a b (k + 1 + 1) ≡ behind a b k
two_passed a b k x h l e f g m =
    let left : drop k a ≡ 95 ∷ (x ∷ drop (k + 1 + 1) a) = begins a k 95 (omega arith) e ∙ ap (λ s. 95 ∷ s) (begins a (k + 1) x h g) in
    let right : drop k b ≡ 95 ∷ (x ∷ drop (k + 1 + 1) b) = begins b k 95 (omega arith) f ∙ ap (λ s. 95 ∷ s) (begins b (k + 1) x l m) in
    two_more x (drop (k + 1 + 1) a) (drop (k + 1 + 1) b) ∙ sym (λ i. compare_bytes (replaced (left i)) (replaced (right i)))

-- ---- step by step

-- `i` bytes are passed and alike, `k` of them in whole signs, so that all but one underscore at most are settled
abbrev pub Passed : List ℕ → List ℕ → ℕ → ℕ → Type 0
Passed a b k i =
    (k ≤ i)
    × (i ≤ k + 1)
    × (i ≤ length a)
    × (i ≤ length b)
    × (k < i → get_or a k 0 ≡ 95)
    × (k < i → get_or b k 0 ≡ 95)
    × (behind a b k ≡ compare_bytes (replaced a) (replaced b))

-- a byte of the second name that is the same as the first's
pub found : (o : Option (Bor ℕ)) (x : Bor ℕ) (b : List ℕ) (i : ℕ) → is_some o ≡ ltb i (length b) → IfSome o (λ y. y.now ≡ get_or b i y.now) → not (option_eq (λ y z. eqb y.now z.now) o (Some x)) ≡ false → (i < length b) × (get_or b i 0 ≡ x.now)
found None x b i s e q = absurd (false≢true (sym q))
found (Some y) x b i s e q =
    let h : i < length b = ltb-true i (length b) (sym s) in
    (h, sym (get_or_read_under b i (length b) y.now 0 e h refl) ∙ eqb-true y.now x.now (not-false (eqb y.now x.now) q))

-- the second byte of a sign, or of two
pub second_passed : (a b : List ℕ) (k i : ℕ) → Passed a b k i → i < length a → i < length b → get_or b i 0 ≡ get_or a i 0 → k < i → Passed a b (i + 1) (i + 1)
second_passed a b k i p h l e lt =
    let at : i ≡ k + 1 = omega (arith, lt, p.1) in
    let q : behind a b (k + 1 + 1) ≡ behind a b k =
    two_passed a b k (get_or a i 0) (omega (arith, at, h)) (omega (arith, at, l)) (p.4 lt) (p.5 lt) (ap (λ j. get_or a j 0) (sym at)) (ap (λ j. get_or b j 0) (sym at) ∙ e) in
    (omega arith, omega arith, omega (arith, h), omega (arith, l), λ f. absurd (omega (arith, f)), λ f. absurd (omega (arith, f)), ap (λ j. behind a b (j + 1)) at ∙ q ∙ p.6)

-- a byte that is no underscore
pub sign_passed : (a b : List ℕ) (k i : ℕ) → Passed a b k i → i < length a → i < length b → get_or b i 0 ≡ get_or a i 0 → (get_or a i 0 ≡ 95 → ⊥) → Passed a b (i + 1) (i + 1)
sign_passed a b k i p h l e n =
    ⊎_elim
    (λ same. (
      omega arith,
      omega arith,
      omega (arith, h),
      omega (arith, l),
      λ f. absurd (omega (arith, f)),
      λ f. absurd (omega (arith, f)),
      one_passed a b i (get_or a i 0) h l refl e n ∙ ap (λ j. behind a b j) (sym same) ∙ p.6,
    ))
    (λ lt. second_passed a b k i p h l e lt)
    (eq-or-lt_of_le p.0)

-- an underscore that may be half of a sign
pub half_passed : (a b : List ℕ) (k i : ℕ) → Passed a b k i → i < length a → i < length b → get_or b i 0 ≡ get_or a i 0 → get_or a i 0 ≡ 95 → i ≤ k → Passed a b k (i + 1)
half_passed a b k i p h l e u n =
    let at : i ≡ k = omega (arith, p.0, n) in
    (omega (arith, p.0), omega (arith, at), omega (arith, h), omega (arith, l), λ f. ap (λ j. get_or a j 0) (sym at) ∙ u, λ f. ap (λ j. get_or b j 0) (sym at) ∙ e ∙ u, p.6)

-- ---- the whole

-- both names as they stand
pub words_answer : (a b xs ys : List ℕ) (p q : Bool) (r : Ordering) → p ≡ reserved a → q ≡ reserved b → xs ≡ spelled p a → ys ≡ spelled q b → r ≡ compare_bytes xs ys → r ≡ compare_bytes (escape a) (escape b)
words_answer a b xs ys p q r e f g h o =
    o ∙ (λ i. compare_bytes ((g ∙ spelled_word a p e) i) ((h ∙ spelled_word b q f) i))

-- what is left of both, where neither is a reserved word
pub names_answer : (a b xs ys : List ℕ) (p q : Bool) (k : ℕ) (r : Ordering) → p ≡ reserved a → q ≡ reserved b → p ≡ false → q ≡ false → xs ≡ replaced (take (length a - k) (drop k a)) → ys ≡ replaced (take (length b - k) (drop k b)) → behind a b k ≡ compare_bytes (replaced a) (replaced b) → r ≡ compare_bytes xs ys → r ≡ compare_bytes (escape a) (escape b)
names_answer a b xs ys p q k r e f g h l m n o =
    o
    ∙ (λ i. compare_bytes ((l ∙ ap replaced (take_rest a k)) i) ((m ∙ ap replaced (take_rest b k)) i))
    ∙ n
    ∙ (λ i. compare_bytes (spelled (sym g i) a) (spelled (sym h i) b))
    ∙ (λ i. compare_bytes (spelled_word a p e i) (spelled_word b q f i))

-- the escapes are equal only where the names are
pub same_names : (a b : List ℕ) (r : Ordering) → r ≡ compare_bytes (escape a) (escape b) → r ≡ Equal → a ≡ b
same_names a b r e q = no_collision a b (bytes_same (escape a) (escape b) (sym e ∙ q))
