use Rattle.std.proofs.Common.{rules, ◌≡◌, Err, List, ℕ, None, sym, ap, ◌∙◌}
use Rattle.rule_host.specs.Rows.{expressions_at}
use Rattle.rule_host.specs.declared.answer.CompileError.TheVariants.{Ill}
use Rattle.rule_host.proofs.Accepting.{not_in_book}
use Rattle.rule_host.proofs.answer_book.AnswerBookRuleHost.compile.Goals as goal

pub returns-in_default-clause-answer : goal.returns-in_default-clause-answer
returns-in_default-clause-answer c =
    let a = c.args.self.now in
    let none : c.place_of.result ≡ None = search rules in
    let is = not_in_book a.book c.args.expression.now (expressions_at a.book a.accepted) (sym c.place_of.ensures.place ∙ none) c.place_of.ensures.present in
    ap (λ (t : List ℕ). Err (Ill t)) c.short_text.ensures ∙ sym (λ k. (is k).0)

pub returns-in_default-clause-list : goal.returns-in_default-clause-list
returns-in_default-clause-list c =
    let a = c.args.self.now in
    let none : c.place_of.result ≡ None = search rules in
    let is = not_in_book a.book c.args.expression.now (expressions_at a.book a.accepted) (sym c.place_of.ensures.place ∙ none) c.place_of.ensures.present in
    sym (λ k. (is k).1)
