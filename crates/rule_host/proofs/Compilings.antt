-- The laws of compilations, and of the list of accepted expressions.
use Rattle.std.proofs.Common.{◌≡◌, ℕ, ◌+◌, ◌<◌, ◌≤◌, Bool, true, false, List, [], ◌∷◌, ◌++◌, length, get_or, Some, None, Ok, Option, position, sym, refl, ap, ◌∙◌, ⊎_elim, not, arith}
use Rattle.std.specs.List.{position_or_len}
use Rattle.std.specs.Str.{bytes_eq}
use Rattle.std.proofs.lemmas.Slice.Eq.{bytes_eq-Decides}
use Rattle.std.proofs.lemmas.List.{length_push, get_or_push, get_or_append_left}
use Rattle.std.proofs.lemmas.List.Folds.{position_or_len_push}
use Rattle.std.proofs.lemmas.List.Quantifiers.{position-Some}
use Rattle.std.proofs.lemmas.List.Sums.{fails_before_first, prefix_len-le-length}
use Rattle.std.proofs.lemmas.Bool.{and_parts, leb-true, both_ways, cases_lt}
use Rattle.std.proofs.lemmas.Grind.{common_steps}
use Rattle.rule_host.specs.Compiling.{place, total, has_room, judged, compiled, Distinct}
use Rattle.rule_host.specs.Laws.{CompilingLaws}
use Rattle.rule_host.specs.Meaning.{Meaning, Judgement, well, ill}

-- ---- the first place of an expression

-- what stands there is the expression
pub place_some : (e : List ℕ) (acc : List (List ℕ)) (n : ℕ) → place e acc ≡ Some n → (n < length acc) × (get_or acc n [] ≡ e)
place_some e acc n h = let s = position-Some (λ x. bytes_eq x e) acc n [] h in (s.0, (bytes_eq-Decides (get_or acc n []) e).0 s.1)

-- where there is none, the search passes the end
pub past_end : {X : Type 0} (p : X → Bool) (xs : List X) → position p xs ≡ None → length xs ≤ position_or_len p xs
past_end p xs h = grind (arith, common_steps)

-- and the expression stands nowhere
pub place_none : (e : List ℕ) (acc : List (List ℕ)) → place e acc ≡ None → (k : ℕ) → k < length acc → get_or acc k [] ≡ e → ⊥
place_none e acc h k l q =
    let here = λ (x : List ℕ). bytes_eq x e in
    let past = past_end here acc h in
    both_ways (here (get_or acc k [])) (fails_before_first here acc k [] (omega arith)) ((bytes_eq-Decides (get_or acc k []) e).1 q)

-- one that is put at the end has its place there
pub place_push : (e : List ℕ) (acc : List (List ℕ)) → place e acc ≡ None → place e (acc ++ e ∷ []) ≡ Some (length acc)
place_push e acc h =
    let here = λ (x : List ℕ). bytes_eq x e in
    let same = (bytes_eq-Decides e e).1 refl in
    grind (arith, common_steps, past_end here acc h, prefix_len-le-length (λ x. not (here x)) acc, position_or_len_push here acc e, length_push acc e, same)

-- ---- the bytes of the list, and its expressions

pub total_push : (acc : List (List ℕ)) (e : List ℕ) → total (acc ++ e ∷ []) ≡ total acc + length e
total_push [] e = omega arith
total_push (x ∷ xs) e = omega (arith, total_push xs e)

-- a new one at the end leaves the list distinct
pub distinct_push : (acc : List (List ℕ)) (e : List ℕ) → place e acc ≡ None → Distinct acc → Distinct (acc ++ e ∷ [])
distinct_push acc e h d i j l q = ⊎_elim
    (λ (k : j < length acc). d i j (l.0, k) (sym (get_or_append_left acc (e ∷ []) [] i (omega arith)) ∙ q ∙ get_or_append_left acc (e ∷ []) [] j k))
    (λ (k : length acc ≤ j).
    let last : length acc ≡ j = omega (arith, length_push acc e) in
    let old : i < length acc = omega arith in
    place_none e acc h i old (sym (get_or_append_left acc (e ∷ []) [] i old) ∙ q ∙ get_or_push acc e [] j last))
    (cases_lt j (length acc))

-- a compilation by its parts: the laws go by the judgement, the place and the room
module _ (m : Meaning) (acc : List (List ℕ)) (e : List ℕ) where
  repeats : (j : Judgement) (k : Option ℕ) (r : Bool) → m.judgement e ≡ j → place e acc ≡ k → has_room m acc e ≡ r → compiled m (judged acc e r k j).1 e ≡ judged acc e r k j
  repeats (ill t) k r a b c = ap (judged acc e (has_room m acc e) (place e acc)) a
  repeats well (Some n) r a b c = ap (judged acc e (has_room m acc e) (place e acc)) a ∙ ap (λ (o : Option ℕ). judged acc e (has_room m acc e) o well) b
  repeats well None true a b c =
      let more = acc ++ e ∷ [] in
      ap (judged more e (has_room m more e) (place e more)) a ∙ ap (λ (o : Option ℕ). judged more e (has_room m more e) o well) (place_push e acc b)
  repeats well None false a b c =
      ap (judged acc e (has_room m acc e) (place e acc)) a
      ∙ ap (λ (o : Option ℕ). judged acc e (has_room m acc e) o well) b
      ∙ ap (λ (o : Bool). judged acc e o None well) c

  stands : (j : Judgement) (k : Option ℕ) (r : Bool) (n : ℕ) → place e acc ≡ k → (judged acc e r k j).0 ≡ Ok n → (n < length (judged acc e r k j).1) × (get_or (judged acc e r k j).1 n [] ≡ e)
  stands (ill t) k r n b h = let z : ◌≡◌ {A = ℕ} 0 1 = cc in absurd (omega arith)
  stands well (Some i) r n b h = let q : i ≡ n = cc in place_some e acc n (b ∙ ap Some q)
  stands well None true n b h =
      let q : length acc ≡ n = cc in
      (omega (arith, length_push acc e), get_or_push acc e [] n q)
  stands well None false n b h = let z : ◌≡◌ {A = ℕ} 0 1 = cc in absurd (omega arith)

  lasts : (j : Judgement) (k : Option ℕ) (r : Bool) (n : ℕ) → n < length acc → (n < length (judged acc e r k j).1) × (get_or (judged acc e r k j).1 n [] ≡ get_or acc n [])
  lasts (ill t) k r n h = (h, refl)
  lasts well (Some i) r n h = (h, refl)
  lasts well None true n h = (omega (arith, length_push acc e), get_or_append_left acc (e ∷ []) [] n h)
  lasts well None false n h = (h, refl)

  distinct : (j : Judgement) (k : Option ℕ) (r : Bool) → place e acc ≡ k → Distinct acc → Distinct (judged acc e r k j).1
  distinct (ill t) k r b d = d
  distinct well (Some i) r b d = d
  distinct well None true b d = distinct_push acc e b d
  distinct well None false b d = d

  few : (j : Judgement) (k : Option ℕ) (r : Bool) → has_room m acc e ≡ r → length acc ≤ m.most_expressions → length (judged acc e r k j).1 ≤ m.most_expressions
  few (ill t) k r c h = h
  few well (Some i) r c h = h
  few well None true c h = omega (arith, length_push acc e, leb-true (length acc + 1) m.most_expressions (and_parts _ _ c).0)
  few well None false c h = h

  small : (j : Judgement) (k : Option ℕ) (r : Bool) → has_room m acc e ≡ r → total acc ≤ m.most_bytes → total (judged acc e r k j).1 ≤ m.most_bytes
  small (ill t) k r c h = h
  small well (Some i) r c h = h
  small well None true c h = omega (arith, total_push acc e, leb-true (total acc + length e) m.most_bytes (and_parts _ _ c).1)
  small well None false c h = h

pub compiling_laws : CompilingLaws
compiling_laws = record {
  stands = λ m acc e n. stands m acc e (m.judgement e) (place e acc) (has_room m acc e) n refl;
  lasts = λ m acc e n. lasts m acc e (m.judgement e) (place e acc) (has_room m acc e) n;
  repeats = λ m acc e. repeats m acc e (m.judgement e) (place e acc) (has_room m acc e) refl refl refl;
  distinct = λ m acc e. distinct m acc e (m.judgement e) (place e acc) (has_room m acc e) refl;
  few = λ m acc e. few m acc e (m.judgement e) (place e acc) (has_room m acc e) refl;
  small = λ m acc e. small m acc e (m.judgement e) (place e acc) (has_room m acc e) refl;
}

-- the same, at a host whose meaning stayed and whose list is as the first compilation left it
pub repeated : (m m₁ : Meaning) (acc acc₁ : List (List ℕ)) (e : List ℕ) → m₁ ≡ m → acc₁ ≡ (compiled m acc e).1 → compiled m₁ acc₁ e ≡ compiled m acc e
repeated m m₁ acc acc₁ e p q =
    ap (λ (x : Meaning). compiled x acc₁ e) p
    ∙ ap (λ (x : List (List ℕ)). compiled m x e) q
    ∙ compiling_laws.repeats m acc e

-- a compilation by the judgement, the place and the room
pub compiled_by : (m : Meaning) (acc : List (List ℕ)) (e : List ℕ) (j : Judgement) (k : Option ℕ) (r : Bool) → m.judgement e ≡ j → place e acc ≡ k → has_room m acc e ≡ r → compiled m acc e ≡ judged acc e r k j
compiled_by m acc e j k r a b c =
    ap (judged acc e (has_room m acc e) (place e acc)) a
    ∙ ap (λ (o : Option ℕ). judged acc e (has_room m acc e) o j) b
    ∙ ap (λ (o : Bool). judged acc e o k j) c
