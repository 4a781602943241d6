use Rattle.std.proofs.Common.{rules, tests, sym, ◌∙◌}
use Rattle.std.specs.Str.{bytes_eq}
use Rattle.std.proofs.lemmas.Iterator.{YieldsList-from_slice}
use Rattle.std.proofs.lemmas.Iterator.Search.{position_from_yields_List}
use Rattle.rule_host.specs.Rows.{expression_at}
use Rattle.rule_host.proofs.Searches.{position-map}
use Rattle.rule_host.proofs.answer_book.AnswerBook.number_of.Goals as goal

pub returns : goal.returns
returns c =
    let a = c.args.self.now in
    let e = c.args.expression.now in
    let places = YieldsList-from_slice a.accepted (c.iter.ensures.rest ∙ c.as_slice-places.ensures.value) in
    position_from_yields_List (λ i. bytes_eq (expression_at a.book i) e) _ _ c.position.result c.position.ensures.ran places (λ x b q k. search (rules, tests))
    ∙ sym (position-map (expression_at a.book) (λ x. bytes_eq x e) a.accepted)
