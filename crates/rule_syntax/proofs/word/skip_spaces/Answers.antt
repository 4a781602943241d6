use Rattle.std.proofs.Common.{◌≡◌, ◌==◌, ◌∙◌, not, drop, ap, rules, tests}
use Rattle.std.specs.List.{position}
use Rattle.std.proofs.lemmas.List.{take_rest}
use Rattle.std.proofs.lemmas.Iterator.{YieldsList-from_slice}
use Rattle.std.proofs.lemmas.Iterator.Search.{position_from_yields_List}
use Rattle.rule_syntax.proofs.Words.{prefix_found}
use Rattle.rule_syntax.proofs.word.skip_spaces.Goals as goal

pub returns : goal.returns
returns c =
    let s = c.args.text.now in
    let at : c.position.result ≡ position (λ b. not (b == 32)) s = position_from_yields_List (λ b. not (b == 32)) _ _ c.position.result c.position.ensures.ran (YieldsList-from_slice s c.iter.ensures.rest) (λ x b q k. search (rules, tests)) in
    take_rest s c.unwrap_or-start.result ∙ ap (λ k. drop k s) (prefix_found (λ b. b == 32) s c.position.result c.unwrap_or-start.result at c.unwrap_or-start.ensures)
