use Rattle.std.proofs.Common.{◌≡◌, ◌∙◌, not, take, drop, ap, rules, tests}
use Rattle.std.specs.List.{position, prefix_len}
use Rattle.std.proofs.lemmas.Iterator.{YieldsList-from_slice}
use Rattle.std.proofs.lemmas.Iterator.Search.{position_from_yields_List}
use Rattle.rule_syntax.specs.Syntax.{word_byte}
use Rattle.rule_syntax.proofs.Words.{prefix_found}
use Rattle.rule_syntax.proofs.word.split_word.Goals as goal

pub returns : goal.returns
returns c =
    let s = c.args.text.now in
    let at : c.position.result ≡ position (λ b. not (word_byte b)) s = position_from_yields_List (λ b. not (word_byte b)) _ _ c.position.result c.position.ensures.ran (YieldsList-from_slice s c.iter.ensures.rest) (λ x b q k. search (rules, tests)) in
    let n : c.unwrap_or-len.result ≡ prefix_len word_byte s = prefix_found word_byte s c.position.result c.unwrap_or-len.result at c.unwrap_or-len.ensures in
    record {
      front = c.split_at.ensures.front ∙ ap (λ k. take k s) n;
      back = c.split_at.ensures.back ∙ ap (λ k. drop k s) n;
    }
