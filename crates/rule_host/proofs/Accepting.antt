-- What an answer book answers to an expression, by its place among the rows.
use Rattle.std.proofs.Common.{◌≡◌, ℕ, true, false, List, [], ◌∷◌, ◌++◌, length, get_or, codes, option_map, unwrap_or, Some, None, Ok, Err, Option, refl, ap, ◌∙◌, arith}
use Rattle.std.specs.List.{position_or_len, slice_get}
use Rattle.std.proofs.lemmas.Grind.{common_steps}
use Rattle.std.proofs.lemmas.List.Folds.{find_at}
use Rattle.std.proofs.lemmas.List.Quantifiers.{position-Some}
use Rattle.std.proofs.lemmas.Option.{slice_get-get_or, slice_get_past}
use Rattle.std.proofs.lemmas.Slice.Eq.{bytes_eq-Decides}
use Rattle.rule_host.specs.BookMeaning.{book_meaning}
use Rattle.rule_host.specs.Compiling.{compiled, has_room, place}
use Rattle.rule_host.specs.Meaning.{well, ill}
use Rattle.rule_host.specs.Rows.{BookRow, expression_at, is_for, judgement_by, place_for, present, row_for}
use Rattle.rule_host.specs.declared.answer.CompileError.TheVariants.{Full, Ill}
use Rattle.rule_host.specs.declared.answer.Outcome.TheVariants.{True}
use Rattle.rule_host.proofs.Compilings.{compiled_by, past_end}

blank : BookRow
blank = record { expression = []; marked = false; image = []; outcome = True }

module _ (rs : List BookRow) (e : List ℕ) where
  -- a row of an expression has it
  pub stands : (i : ℕ) → place_for e rs ≡ Some i → expression_at rs i ≡ e
  stands i h =
      let s = position-Some (is_for e) rs i blank h in
      ap (λ (o : Option BookRow). unwrap_or (option_map (λ r. r.expression) o) []) (slice_get-get_or rs i blank s.0)
      ∙ (bytes_eq-Decides (get_or rs i blank).expression e).0 s.1

  -- an expression with a row is well
  has_row : (i : ℕ) → place_for e rs ≡ Some i → present rs ≡ rs → (book_meaning rs).judgement e ≡ well
  has_row i h p =
      let s = position-Some (is_for e) rs i blank h in
      let at : position_or_len (is_for e) rs ≡ i = grind (arith, common_steps) in
      ap (λ (xs : List BookRow). judgement_by (row_for e xs)) p
      ∙ ap judgement_by (find_at (is_for e) rs ∙ ap (slice_get rs) at ∙ slice_get-get_or rs i blank s.0)

  has_none : place_for e rs ≡ None → present rs ≡ rs → (book_meaning rs).judgement e ≡ ill (codes "not in book")
  has_none h p =
      ap (λ (xs : List BookRow). judgement_by (row_for e xs)) p
      ∙ ap judgement_by (find_at (is_for e) rs ∙ slice_get_past rs (position_or_len (is_for e) rs) (past_end (is_for e) rs h))

  pub not_in_book : (acc : List (List ℕ)) → place_for e rs ≡ None → present rs ≡ rs → compiled (book_meaning rs) acc e ≡ (Err (Ill (codes "not in book")), acc)
  not_in_book acc h p = compiled_by (book_meaning rs) acc e (ill (codes "not in book")) _ _ (has_none h p) refl refl

  pub known : (acc : List (List ℕ)) (i n : ℕ) → place_for e rs ≡ Some i → present rs ≡ rs → place e acc ≡ Some n → compiled (book_meaning rs) acc e ≡ (Ok n, acc)
  known acc i n h p k = compiled_by (book_meaning rs) acc e well (Some n) _ (has_row i h p) k refl

  pub full : (acc : List (List ℕ)) (i : ℕ) → place_for e rs ≡ Some i → present rs ≡ rs → place e acc ≡ None → has_room (book_meaning rs) acc e ≡ false → compiled (book_meaning rs) acc e ≡ (Err Full, acc)
  full acc i h p k r = compiled_by (book_meaning rs) acc e well None false (has_row i h p) k r

  pub new : (acc : List (List ℕ)) (i : ℕ) → place_for e rs ≡ Some i → present rs ≡ rs → place e acc ≡ None → has_room (book_meaning rs) acc e ≡ true → compiled (book_meaning rs) acc e ≡ (Ok (length acc), acc ++ e ∷ [])
  new acc i h p k r = compiled_by (book_meaning rs) acc e well None true (has_row i h p) k r

pub ruleset compiles = (stands, not_in_book, known, full, new)
