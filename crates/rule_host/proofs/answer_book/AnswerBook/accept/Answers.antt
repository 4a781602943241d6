use Rattle.std.proofs.Common.{◌≡◌, ℕ, ◌+◌, ◌≤◌, List, [], ◌∷◌, ◌++◌, length, sym, subst, ap, ◌∙◌, arith}
use Rattle.std.proofs.lemmas.Bool.{le-leb, cond-true}
use Rattle.std.proofs.lemmas.List.{length-map, map_push}
use Rattle.rule_host.specs.Compiling.{total, Distinct}
use Rattle.rule_host.specs.Rows.{expression_at, expressions_at}
use Rattle.rule_host.proofs.Compilings.{distinct_push, total_push}
use Rattle.rule_host.proofs.Room.{room_is}
use Rattle.rule_host.proofs.answer_book.AnswerBook.accept.Goals as goal

-- the list has the expression at its end
longer : (c : goal.After-push) → expressions_at c.args.self.now.book c.push.new.self ≡ expressions_at c.args.self.now.book c.args.self.now.accepted ++ c.args.expression.now ∷ []
longer c =
    let a = c.args.self.now in
    let acc = expressions_at a.book a.accepted in
    let room = room_is (length acc + 1) 512 (total acc + length c.args.expression.now) 65535 c.requires.room in
    let few : length a.accepted + 1 ≤ 512 = omega (arith, room.0, length-map a.accepted (expression_at a.book)) in
    ap (expressions_at a.book) (c.push.ensures.list ∙ cond-true _ _ _ (le-leb (length a.accepted + 1) 512 few))
    ∙ map_push (expression_at a.book) a.accepted c.args.row
    ∙ ap (λ (e : List ℕ). acc ++ e ∷ []) c.requires.stands

pub invariant_of-self : goal.invariant_of-self
invariant_of-self c =
    let a = c.args.self.now in
    let acc = expressions_at a.book a.accepted in
    let e = c.args.expression.now in
    let is = longer c in
    let room = room_is (length acc + 1) 512 (total acc + length e) 65535 c.requires.room in
    let P : List (List ℕ) → Type 0 = Distinct in
    record {
      counts = omega (arith, a.counts, ap total is, total_push acc e);
      small = omega (arith, a.counts, room.1);
      distinct = subst P (sym is) (distinct_push acc e c.requires.new a.distinct);
    }
