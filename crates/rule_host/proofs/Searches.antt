-- The search for the first row that passes a test.
use Rattle.std.proofs.Common.{◌≡◌, ℕ, ◌+◌, Bool, true, false, cond, List, [], ◌∷◌, ◌++◌, map, find, position, length, Some, None, Option, option_map, not, ltb, sym, refl, ap, ◌∙◌, arith}
use Rattle.std.specs.Borrow.{Bor}
use Rattle.std.specs.List.{AllByRecursion, position_or_len}
use Rattle.std.proofs.lemmas.List.Elements.{filter-append}
use Rattle.std.proofs.lemmas.List.{append-nil, length-map}
use Rattle.std.proofs.lemmas.Bool.{cond-false}
use Rattle.rule_host.specs.Laws.{DecidesFirst, BookLaws}
use Rattle.fixed.specs.declared.slice.Slice.{Slice}
use Rattle.rule_host.specs.Rows.{BookRow, is_short, present}
use Rattle.rule_host.specs.Stored.{stored_at}
use Rattle.rule_host.specs.declared.row.Row.{Row}

-- ---- a search over a list that is seen through f

module _ {X Y : Type 0} (f : X → Y) (p : Y → Bool) where
  found_here : (x : X) (rest : Option X) (b : Bool) → cond b (Some (f x)) (option_map f rest) ≡ option_map f (cond b (Some x) rest)
  found_here x rest true = refl
  found_here x rest false = refl

  pub find-map : (xs : List X) → find p (map f xs) ≡ option_map f (find (λ x. p (f x)) xs)
  find-map [] = refl
  find-map (x ∷ xs) = ap (λ (o : Option Y). cond (p (f x)) (Some (f x)) o) (find-map xs) ∙ found_here x (find (λ y. p (f y)) xs) (p (f x))

  at-map : (xs : List X) → position_or_len p (map f xs) ≡ position_or_len (λ x. p (f x)) xs
  at-map [] = refl
  at-map (x ∷ xs) = ap (λ (n : ℕ). cond (not (p (f x))) (1 + n) 0) (at-map xs)

  pub position-map : (xs : List X) → position p (map f xs) ≡ position (λ x. p (f x)) xs
  position-map xs = ap (λ (n : ℕ). cond (ltb n (length (map f xs))) (Some n) None) (at-map xs) ∙ ap (λ (n : ℕ). cond (ltb (position_or_len (λ x. p (f x)) xs) n) (Some (position_or_len (λ x. p (f x)) xs)) None) (length-map xs f)

-- what a search over stored rows finds, as rows of the book
pub seen : (p : BookRow → Bool) (arena : List ℕ) (rows : List (Row Slice)) (now : List BookRow) (r : Option (Bor (Row Slice))) → option_map (λ x. x.now) r ≡ find (λ x. p (stored_at arena x)) rows → map (stored_at arena) rows ≡ now → present (map (stored_at arena) rows) ≡ map (stored_at arena) rows → option_map (λ x. stored_at arena x.now) r ≡ find p (present now)
seen p arena rows now r found is short =
    mapped_twice r
    ∙ ap (option_map (stored_at arena)) found
    ∙ sym (find-map (stored_at arena) p rows)
    ∙ ap (find p) (sym short)
    ∙ ap (λ (rs : List BookRow). find p (present rs)) is
  where
    mapped_twice : (o : Option (Bor (Row Slice))) → option_map (λ x. stored_at arena x.now) o ≡ option_map (stored_at arena) (option_map (λ x. x.now) o)
    mapped_twice None = refl
    mapped_twice (Some x) = refl

-- ---- the laws of a book's rows

decides_here : (p : BookRow → Bool) (r s : BookRow) (rs : List BookRow) (b : Bool) → p r ≡ b → cond b (Some r) (find p rs) ≡ Some s → (find p rs ≡ Some s → DecidesFirst p rs s) → DecidesFirst p (r ∷ rs) s
decides_here p r s rs true h e k =
    let q : r ≡ s = cc in
    record { earlier = []; later = rs; stands = ap (λ (x : BookRow). x ∷ rs) q; passes = ap p (sym q) ∙ h; none_before = tt }
decides_here p r s rs false h e k =
    let d = k e in
    record { earlier = r ∷ d.earlier; later = d.later; stands = ap (λ (xs : List BookRow). r ∷ xs) d.stands; passes = d.passes; none_before = (h, d.none_before) }

decides_first : (p : BookRow → Bool) (rs : List BookRow) (s : BookRow) → find p rs ≡ Some s → DecidesFirst p rs s
decides_first p [] s e = let z : ◌≡◌ {A = ℕ} 0 1 = cc in absurd (omega arith)
decides_first p (r ∷ rs) s e = decides_here p r s rs (p r) refl e (decides_first p rs s)

none_here : (p : BookRow → Bool) (r : BookRow) (rs : List BookRow) (b : Bool) → p r ≡ b → cond b (Some r) (find p rs) ≡ None → (find p rs ≡ None → AllByRecursion (λ s. p s ≡ false) rs) → AllByRecursion (λ s. p s ≡ false) (r ∷ rs)
none_here p r rs true h e k = let z : ◌≡◌ {A = ℕ} 0 1 = cc in absurd (omega arith)
none_here p r rs false h e k = (h, k e)

none_passes : (p : BookRow → Bool) (rs : List BookRow) → find p rs ≡ None → AllByRecursion (λ s. p s ≡ false) rs
none_passes p [] e = tt
none_passes p (r ∷ rs) e = none_here p r rs (p r) refl e (none_passes p rs)

absent : (rs : List BookRow) (r : BookRow) → is_short r.outcome ≡ false → present (rs ++ r ∷ []) ≡ present rs
absent rs r h =
    filter-append (λ (s : BookRow). is_short s.outcome) rs (r ∷ [])
    ∙ ap (λ (xs : List BookRow). present rs ++ xs) (cond-false _ (r ∷ []) [] h)
    ∙ append-nil (present rs)

pub book_laws : BookLaws
book_laws = record { some = decides_first; none = none_passes; absent = absent }
