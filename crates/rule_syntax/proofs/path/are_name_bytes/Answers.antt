use Rattle.std.proofs.Common.{◌∙◌, rules, tests}
use Rattle.std.proofs.lemmas.Iterator.{YieldsList-from_slice}
use Rattle.std.proofs.lemmas.Iterator.Search.{all_from_yields_List}
use Rattle.rule_syntax.specs.Syntax.{name_byte}
use Rattle.rule_syntax.proofs.Names.{name_bytes_all}
use Rattle.rule_syntax.proofs.path.are_name_bytes.Goals as goal

pub returns : goal.returns
returns c =
    let s = c.args.text.now in
    all_from_yields_List name_byte _ _ c.all.result c.all.ensures.ran (YieldsList-from_slice s c.iter.ensures.rest) (λ x b q k. search (rules, tests)) ∙ name_bytes_all s
