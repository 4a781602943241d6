use Rattle.std.proofs.Common.{◌∙◌, ap, rules, tests}
use Rattle.std.specs.List.{list_all}
use Rattle.std.proofs.lemmas.Iterator.Search.{all_from_yields_List}
use Rattle.std.proofs.lemmas.Iterator.Splits.{YieldsList-from_slice_split}
use Rattle.rule_syntax.specs.Syntax.{names_of, proper_name}
use Rattle.rule_syntax.proofs.Names.{every_name_all, names_by_split}
use Rattle.rule_syntax.proofs.Words.{point}
use Rattle.rule_syntax.proofs.path.is_path.Goals as goal

pub returns : goal.returns
returns c =
    let s = c.args.text.now in
    all_from_yields_List proper_name _ _ c.all.result c.all.ensures.ran
    (YieldsList-from_slice_split _ point s c.split.ensures.rest c.split.ensures.done c.split.ensures.closure (λ x b q k. search (rules, tests)))
    (λ x b q k. search (rules, tests))
    ∙ ap (list_all proper_name) (names_by_split s)
    ∙ every_name_all (names_of s)
