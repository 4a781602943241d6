use Rattle.std.proofs.Common.{◌≡◌, sym, ◌∙◌, rules, tests}
use Rattle.std.specs.List.{position}
use Rattle.std.proofs.lemmas.List.{take_rest}
use Rattle.std.proofs.lemmas.Iterator.{YieldsList-from_slice}
use Rattle.std.proofs.lemmas.Iterator.Search.{position_from_yields_List}
use Rattle.rule_syntax.proofs.Words.{point, point_found, point_missing}
use Rattle.rule_syntax.proofs.word.split_point.Goals as goal

pub returns-in-Some : goal.returns-in-Some
returns-in-Some c =
    let at : c.position.result ≡ position point c.args.text.now = position_from_yields_List point _ _ c.position.result c.position.ensures.ran (YieldsList-from_slice c.args.text.now c.iter.ensures.rest) (λ x b q k. search (rules, tests)) in
    let p = point_found c.args.text.now c.in-Some.point (sym c.in-Some.is ∙ at) in
    record { front = sym p.0; back = rw take_rest (sym p.1) }

pub returns-in-None : goal.returns-in-None
returns-in-None c =
    let at : c.position.result ≡ position point c.args.text.now = position_from_yields_List point _ _ c.position.result c.position.ensures.ran (YieldsList-from_slice c.args.text.now c.iter.ensures.rest) (λ x b q k. search (rules, tests)) in
    let p = point_missing c.args.text.now (sym c.in-None.is ∙ at) in
    record { front = sym p.0; back = sym p.1 }
