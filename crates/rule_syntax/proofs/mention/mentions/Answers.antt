use Rattle.std.proofs.Common.{◌∙◌, rules, tests}
use Rattle.std.proofs.lemmas.Iterator.{YieldsList-from_slice}
use Rattle.std.proofs.lemmas.Iterator.Search.{any_from_yields_List}
use Rattle.rule_syntax.proofs.FirstNames.{either, mentioned_any}
use Rattle.rule_syntax.proofs.mention.mentions.Goals as goal

pub returns : goal.returns
returns c =
    let s = c.args.expression.now in
    any_from_yields_List (either s c.args.name.now) _ _ c.any.result c.any.ensures.ran (YieldsList-from_slice c.args.comparisons.now c.iter.ensures.rest) (λ x b q k. search (rules, tests)) ∙ mentioned_any s c.args.name.now c.args.comparisons.now
