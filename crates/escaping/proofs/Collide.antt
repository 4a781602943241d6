-- No two names share an escape: the first bytes of what is written tell which sign of the name they came from.
use Rattle.std.proofs.Common.{◌≡◌, ℕ, zero, suc, ◌≤◌, Bool, true, false, cond, not, ◌&&◌, ◌||◌, eqb, List, [], ◌∷◌, ◌++◌, length, codes, sym, refl, ap, ◌∙◌, ⊎_elim, append-nil, arith, eqb-true}
use mathlib.Core.List.{append_cancel_left, append_cancel_right}
use Rattle.std.specs.Str.{bytes_eq}
use Rattle.std.proofs.lemmas.Slice.Eq.{bytes_eq-Decides}
use Rattle.std.proofs.lemmas.Bool.{and_parts, false≢true, not-true, or_cases}
use Rattle.escaping.specs.Escape.{escape, member, replaced, reserved, sign, words}
use Rattle.escaping.specs.Laws.{NoCollision, WorkedNames}

-- a sign of a name: two underscores, one of the three that are written out, or any other
pub data Token : Type 0 where
  none : Token
  pair : Token
  dot : Token
  dash : Token
  slash : Token
  plain : ℕ → Token

-- how it is written
abbrev pub text : Token → List ℕ
text none = []
text pair = codes "__underscores__"
text dot = codes "__dot__"
text dash = codes "__dash__"
text slash = codes "__slash__"
text (plain b) = b ∷ []

-- what it is in the name
abbrev pub origin : Token → List ℕ
origin none = []
origin pair = 95 ∷ 95 ∷ []
origin dot = 46 ∷ []
origin dash = 45 ∷ []
origin slash = 47 ∷ []
origin (plain b) = b ∷ []

abbrev single : ℕ → Token
single b = cond (eqb b 46) dot (cond (eqb b 45) dash (cond (eqb b 47) slash (plain b)))

-- the first sign of a name
abbrev pub first : List ℕ → Token
first [] = none
first (a ∷ []) = single a
first (a ∷ (b ∷ s)) = cond (eqb a 95 && eqb b 95) pair (single a)

-- what follows it
abbrev pub rest : List ℕ → List ℕ
rest [] = []
rest (a ∷ []) = []
rest (a ∷ (b ∷ s)) = cond (eqb a 95 && eqb b 95) s (b ∷ s)

-- the first sign as it is read off what was written
abbrev fourth : List ℕ → Token
fourth [] = dot
fourth (x ∷ o) = cond (eqb x 111) dot dash

abbrev third : List ℕ → Token
third [] = plain 95
third (x ∷ o) = cond (eqb x 117) pair (cond (eqb x 115) slash (cond (eqb x 100) (fourth o) (plain 95)))

abbrev second : List ℕ → Token
second [] = plain 95
second (x ∷ o) = cond (eqb x 95) (third o) (plain 95)

abbrev read : List ℕ → Token
read [] = none
read (x ∷ o) = cond (eqb x 95) (second o) (plain x)

by_sign : (b : ℕ) (p q r : Bool) → cond p (codes "__dot__") (cond q (codes "__dash__") (cond r (codes "__slash__") (b ∷ []))) ≡ text (cond p dot (cond q dash (cond r slash (plain b))))
by_sign b true q r = refl
by_sign b false true r = refl
by_sign b false false true = refl
by_sign b false false false = refl

text_single : (b : ℕ) → sign b ≡ text (single b)
text_single b = by_sign b (eqb b 46) (eqb b 45) (eqb b 47)

by_origin : (b : ℕ) (p q r : Bool) → (p ≡ true → b ≡ 46) → (q ≡ true → b ≡ 45) → (r ≡ true → b ≡ 47) → b ∷ [] ≡ origin (cond p dot (cond q dash (cond r slash (plain b))))
by_origin b true q r f g h = ap (λ x. x ∷ []) (f refl)
by_origin b false true r f g h = ap (λ x. x ∷ []) (g refl)
by_origin b false false true f g h = ap (λ x. x ∷ []) (h refl)
by_origin b false false false f g h = refl

origin_single : (b : ℕ) → b ∷ [] ≡ origin (single b)
origin_single b = by_origin b (eqb b 46) (eqb b 45) (eqb b 47) (eqb-true b 46) (eqb-true b 45) (eqb-true b 47)

by_name : (a b : ℕ) (s : List ℕ) (p q : Bool) → (p ≡ true → a ≡ 95) → (q ≡ true → b ≡ 95) → a ∷ (b ∷ s) ≡ origin (cond (p && q) pair (single a)) ++ cond (p && q) s (b ∷ s)
by_name a b s true true f g = λ i. f refl i ∷ (g refl i ∷ s)
by_name a b s true false f g = ap (λ o. o ++ (b ∷ s)) (origin_single a)
by_name a b s false q f g = ap (λ o. o ++ (b ∷ s)) (origin_single a)

-- a name is its first sign and the rest
pub name_split : (s : List ℕ) → s ≡ origin (first s) ++ rest s
name_split [] = refl
name_split (a ∷ []) = origin_single a ∙ sym (append-nil (origin (single a)))
name_split (a ∷ (b ∷ s)) = by_name a b s (eqb a 95) (eqb b 95) (eqb-true a 95) (eqb-true b 95)

by_text : (a b : ℕ) (s : List ℕ) (p : Bool) → cond p (codes "__underscores__" ++ replaced s) (sign a ++ replaced (b ∷ s)) ≡ text (cond p pair (single a)) ++ replaced (cond p s (b ∷ s))
by_text a b s true = refl
by_text a b s false = ap (λ o. o ++ replaced (b ∷ s)) (text_single a)

-- and is written so
pub text_split : (s : List ℕ) → replaced s ≡ text (first s) ++ replaced (rest s)
unfolding replaced
text_split [] = refl
text_split (a ∷ []) = text_single a ∙ sym (append-nil (text (single a)))
text_split (a ∷ (b ∷ s)) = by_text a b s (eqb a 95 && eqb b 95)

by_read : (b : ℕ) (o : List ℕ) (p q r : Bool) → read (b ∷ o) ≡ plain b → read (text (cond p dot (cond q dash (cond r slash (plain b)))) ++ o) ≡ cond p dot (cond q dash (cond r slash (plain b)))
by_read b o true q r h = refl
by_read b o false true r h = refl
by_read b o false false true h = refl
by_read b o false false false h = h

read_single : (b : ℕ) (o : List ℕ) → read (b ∷ o) ≡ plain b → read (text (single b) ++ o) ≡ single b
read_single b o h = by_read b o (eqb b 46) (eqb b 45) (eqb b 47) h

by_second : (b : ℕ) (o : List ℕ) (p q r : Bool) → eqb b 95 ≡ false → second (text (cond p dot (cond q dash (cond r slash (plain b)))) ++ o) ≡ plain 95
by_second b o true q r h = refl
by_second b o false true r h = refl
by_second b o false false true h = refl
by_second b o false false false h = ap (λ t. cond t (third o) (plain 95)) h

-- an underscore before what is no underscore
second-single : (b : ℕ) (o : List ℕ) → eqb b 95 ≡ false → second (text (single b) ++ o) ≡ plain 95
second-single b o h = by_second b o (eqb b 46) (eqb b 45) (eqb b 47) h

first_apart : (b : ℕ) (s : List ℕ) → eqb b 95 ≡ false → first (b ∷ s) ≡ single b
first_apart b [] h = refl
first_apart b (c ∷ s) h = ap (λ t. cond (t && eqb c 95) pair (single b)) h

second_apart : (b : ℕ) (s : List ℕ) → eqb b 95 ≡ false → second (replaced (b ∷ s)) ≡ plain 95
second_apart b s h = ap second (text_split (b ∷ s)) ∙ (ap (λ k. second (text k ++ replaced (rest (b ∷ s)))) (first_apart b s h) ∙ second-single b (replaced (rest (b ∷ s))) h)

by_end : (a : ℕ) (p : Bool) → (p ≡ true → a ≡ 95) → cond p (plain 95) (plain a) ≡ plain a
by_end a true f = ap plain (sym (f refl))
by_end a false f = refl

by_pair : (a b : ℕ) (s : List ℕ) (p q : Bool) → (p ≡ true → a ≡ 95) → eqb a 95 ≡ p → eqb b 95 ≡ q → read (text (cond (p && q) pair (single a)) ++ replaced (cond (p && q) s (b ∷ s))) ≡ cond (p && q) pair (single a)
by_pair a b s true true f e g = refl
by_pair a b s true false f e g =
    read_single a (replaced (b ∷ s)) (ap (λ t. cond t (second (replaced (b ∷ s))) (plain a)) e ∙ (second_apart b s g ∙ ap plain (sym (f refl))))
by_pair a b s false q f e g = read_single a (replaced (b ∷ s)) (ap (λ t. cond t (second (replaced (b ∷ s))) (plain a)) e)

-- the first sign can be read off what was written
read_back : (s : List ℕ) → read (replaced s) ≡ first s
unfolding replaced
read_back [] = refl
read_back (a ∷ []) = ap read (text_split (a ∷ [])) ∙ read_single a [] (by_end a (eqb a 95) (eqb-true a 95))
read_back (a ∷ (b ∷ s)) =
    ap read (text_split (a ∷ (b ∷ s))) ∙ by_pair a b s (eqb a 95) (eqb b 95) (eqb-true a 95) refl refl

by_short : (b : ℕ) (s : List ℕ) (p : Bool) → length (cond p s (b ∷ s)) ≤ suc (length s)
by_short b s true = omega arith
by_short b s false = omega arith

pub shorter : (a : ℕ) (s : List ℕ) → length (rest (a ∷ s)) ≤ length s
shorter a [] = omega arith
shorter a (b ∷ s) = by_short b s (eqb a 95 && eqb b 95)

by_some : (a : ℕ) (p q r : Bool) → cond p dot (cond q dash (cond r slash (plain a))) ≡ none → ⊥
by_some a true q r e = let z : ◌≡◌ {A = ℕ} 0 1 = cc in omega arith
by_some a false true r e = let z : ◌≡◌ {A = ℕ} 0 1 = cc in omega arith
by_some a false false true e = let z : ◌≡◌ {A = ℕ} 0 1 = cc in omega arith
by_some a false false false e = let z : ◌≡◌ {A = ℕ} 0 1 = cc in omega arith

by_first : (a : ℕ) (p : Bool) → cond p pair (single a) ≡ none → ⊥
by_first a true e = let z : ◌≡◌ {A = ℕ} 0 1 = cc in omega arith
by_first a false e = by_some a (eqb a 46) (eqb a 45) (eqb a 47) e

first_some : (a : ℕ) (s : List ℕ) → first (a ∷ s) ≡ none → ⊥
first_some a [] e = by_some a (eqb a 46) (eqb a 45) (eqb a 47) e
first_some a (b ∷ s) e = by_first a (eqb a 95 && eqb b 95) e

same_first : (s t : List ℕ) → replaced s ≡ replaced t → first s ≡ first t
same_first s t e = sym (read_back s) ∙ (ap read e ∙ read_back t)

same_rest : (s t : List ℕ) → replaced s ≡ replaced t → replaced (rest s) ≡ replaced (rest t)
same_rest s t e =
    append_cancel_left (text (first t)) _ _ (ap (λ k. text k ++ replaced (rest s)) (sym (same_first s t e)) ∙ (sym (text_split s) ∙ (e ∙ text_split t)))

same_name : (n : ℕ) (s t : List ℕ) → length s ≤ n → replaced s ≡ replaced t → s ≡ t
same_name n [] [] h e = refl
same_name n [] (b ∷ t) h e = absurd (first_some b t (sym (same_first [] (b ∷ t) e)))
same_name zero (a ∷ s) t h e = absurd (omega arith)
same_name (suc n) (a ∷ s) t h e =
    let short = shorter a s in
    let r = same_name n (rest (a ∷ s)) (rest t) (omega arith) (same_rest (a ∷ s) t e) in
    name_split (a ∷ s) ∙ (ap (λ k. origin k ++ rest (a ∷ s)) (same_first (a ∷ s) t e) ∙ (ap (λ o. origin (first t) ++ o) r ∙ sym (name_split t)))

pub replaced_apart : (s t : List ℕ) → replaced s ≡ replaced t → s ≡ t
replaced_apart s t e = same_name (length s) s t (omega arith) e

-- ---- reserved words

-- no reserved word begins as a sign that is written out does
abbrev apart : List ℕ → Bool
apart [] = false
apart (x ∷ w) = not (eqb x 117 || (eqb x 115 || eqb x 100)) && not (eqb x 95)

abbrev every_apart : List (List ℕ) → Bool
every_apart [] = true
every_apart (w ∷ ws) = apart w && every_apart ws

member_apart : (s : List ℕ) (ws : List (List ℕ)) → every_apart ws ≡ true → member s ws ≡ true → apart s ≡ true
member_apart s [] e m = absurd (false≢true m)
member_apart s (w ∷ ws) e m =
    ⊎_elim
    (λ h. ap apart ((bytes_eq-Decides s w).0 h) ∙ (and_parts (apart w) (every_apart ws) e).0)
    (λ h. member_apart s ws (and_parts (apart w) (every_apart ws) e).1 h)
    (or_cases (bytes_eq s w) (member s ws) m)

by_third : (x : ℕ) (o : List ℕ) (p q r : Bool) (u : Bool) → (not (p || (q || r)) && u) ≡ true → cond p pair (cond q slash (cond r (fourth o) (plain 95))) ≡ plain 95
by_third x o true q r u e = absurd (false≢true e)
by_third x o false true r u e = absurd (false≢true e)
by_third x o false false true u e = absurd (false≢true e)
by_third x o false false false u e = refl

read_word : (s o : List ℕ) → apart s ≡ true → read (codes "__" ++ (s ++ o)) ≡ plain 95
read_word [] o e = absurd (false≢true e)
read_word (x ∷ s) o e = by_third x (s ++ o) (eqb x 117) (eqb x 115) (eqb x 100) (not (eqb x 95)) e

read_inner : (s o : List ℕ) → apart s ≡ true → read (95 ∷ (s ++ o)) ≡ plain 95
read_inner [] o e = absurd (false≢true e)
read_inner (x ∷ s) o e =
    ap (λ t. cond t (third (s ++ o)) (plain 95)) (not-true (eqb x 95) (and_parts (not (eqb x 117 || (eqb x 115 || eqb x 100))) (not (eqb x 95)) e).1)

-- after one underscore alone there is no other
lone : (t : List ℕ) → first t ≡ plain 95 → first (rest t) ≡ plain 95 → ⊥
lone t f g =
    let outer : t ≡ 95 ∷ rest t = name_split t ∙ ap (λ k. origin k ++ rest t) f in
    let inner : rest t ≡ 95 ∷ rest (rest t) = name_split (rest t) ∙ ap (λ k. origin k ++ rest (rest t)) g in
    let two : first t ≡ pair = ap first (outer ∙ ap (λ u. 95 ∷ u) inner) in
    let z : ◌≡◌ {A = ℕ} 0 1 = cc in
    omega arith

word_apart : (s o t : List ℕ) → apart s ≡ true → replaced t ≡ codes "__" ++ (s ++ o) → ⊥
word_apart s o t a e =
    let f : first t ≡ plain 95 = sym (read_back t) ∙ (ap read e ∙ read_word s o a) in
    let inner : replaced (rest t) ≡ 95 ∷ (s ++ o) = append_cancel_left (95 ∷ []) _ _ (ap (λ k. text k ++ replaced (rest t)) (sym f) ∙ (sym (text_split t) ∙ e)) in
    lone t f (sym (read_back (rest t)) ∙ (ap read inner ∙ read_inner s o a))

reserved_apart : (s : List ℕ) → reserved s ≡ true → apart s ≡ true
reserved_apart s m = member_apart s words refl m

by_escape : (s t : List ℕ) (p q : Bool) → reserved s ≡ p → reserved t ≡ q → cond p (codes "__" ++ (s ++ codes "__")) (replaced s) ≡ cond q (codes "__" ++ (t ++ codes "__")) (replaced t) → s ≡ t
by_escape s t true true f g e = append_cancel_right s t (codes "__") (append_cancel_left (codes "__") _ _ e)
by_escape s t true false f g e = absurd (word_apart s (codes "__") t (reserved_apart s f) (sym e))
by_escape s t false true f g e = absurd (word_apart t (codes "__") s (reserved_apart t g) e)
by_escape s t false false f g e = replaced_apart s t e

pub no_collision : NoCollision
unfolding escape
no_collision s t e = by_escape s t (reserved s) (reserved t) refl refl e

pub worked_names : WorkedNames
unfolding escape replaced
worked_names = record { dotted = refl; spelled = refl; doubled = refl }
