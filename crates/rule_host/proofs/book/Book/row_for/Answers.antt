use Rattle.std.proofs.Common.{rules, tests, ◌∙◌}
use Rattle.std.proofs.lemmas.Iterator.{YieldsList-from_slice}
use Rattle.std.proofs.lemmas.Iterator.Search.{find_from_yields_List}
use Rattle.rule_host.specs.Rows.{given, is_for}
use Rattle.rule_host.specs.Stored.{stored_at}
use Rattle.rule_host.proofs.Mapped.{mapped_option}
use Rattle.rule_host.proofs.Searches.{seen}
use Rattle.rule_host.proofs.book.Book.row_for.Goals as goal

pub returns : goal.returns
returns c =
    let b = c.self.inside in
    let test = is_for c.args.expression.now in
    let rows = YieldsList-from_slice b.rows (c.iter.ensures.rest ∙ c.as_slice-rows.ensures.value) in
    let found = find_from_yields_List (λ r. test (stored_at b.arena r)) _ _ c.find.result c.find.ensures.ran rows (λ x a q k. search (rules, tests)) in
    mapped_option _ (λ x. stored_at b.arena x.now) given (λ x u k. search rules) c.find.result c.map.result c.map.ensures.cases
    ∙ seen test b.arena b.rows c.args.self.now c.find.result found c.self.view_is c.self.invariant.short
