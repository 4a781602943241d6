use Rattle.std.proofs.Common.{rules, tests, sym, ap, ◌∙◌}
use Rattle.std.proofs.lemmas.Iterator.{YieldsList-from_slice}
use Rattle.std.proofs.lemmas.Iterator.Search.{position_from_yields_List}
use Rattle.rule_host.specs.Rows.{is_for, place_for}
use Rattle.rule_host.specs.Stored.{stored_at}
use Rattle.rule_host.proofs.Searches.{position-map}
use Rattle.rule_host.proofs.book.Book.place_of.Goals as goal

pub returns-clause-place : goal.returns-clause-place
returns-clause-place c =
    let b = c.self.inside in
    let e = c.args.expression.now in
    let found = position_from_yields_List (λ r. is_for e (stored_at b.arena r)) _ _ c.position.result c.position.ensures.ran (YieldsList-from_slice b.rows (c.iter.ensures.rest ∙ c.as_slice-rows.ensures.value)) (λ x a q k. search (rules, tests)) in
    found ∙ sym (position-map (stored_at b.arena) (is_for e) b.rows) ∙ ap (place_for e) c.self.view_is
