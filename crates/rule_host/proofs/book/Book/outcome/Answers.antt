use Rattle.std.proofs.Common.{rules, Option, take, sym, subst, ap, ◌∙◌}
use Rattle.rule_host.specs.Meaning.{ShortEvaluation}
use Rattle.rule_host.specs.Rows.{BookRow, is_at, evaluation_by}
use Rattle.rule_host.specs.Shortness.{short_first}
use Rattle.rule_host.proofs.Mapped.{mapped, uncut}
use Rattle.rule_host.proofs.book.Book.outcome.Goals as goal

pub returns-in-Some : goal.returns-in-Some
returns-in-Some c =
    let v = c.in-Some.row.outcome in
    let found = c.in-Some.ensures in
    let P : Option BookRow → Type 0 = λ o. ShortEvaluation (evaluation_by o) in
    let short = subst P (sym found) (short_first (is_at c.args.expression.now c.args.image.now) c.args.self.now) in
    mapped _ (λ t. take 1024 t.now) (λ t u h. search rules) v c.map.result c.map.ensures ∙ uncut v short ∙ ap evaluation_by found
