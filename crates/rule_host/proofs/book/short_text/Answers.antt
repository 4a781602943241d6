use Rattle.std.proofs.Common.{◌+◌, ◌≤◌, List, ℕ, length, ap, ◌∙◌, arith, length-take}
use Rattle.std.proofs.lemmas.Bool.{le-leb, cond-true}
use Rattle.fixed.specs.Room.{extended}
use Rattle.rule_host.proofs.book.short_text.Goals as goal

pub returns : goal.returns
returns c =
    let few : 0 + length c.of.result.now ≤ 1024 = omega (arith, ap length c.of.ensures, length-take 1024 c.args.bytes.now) in
    c.append.ensures.text
    ∙ ap (λ (old : List ℕ). extended 1024 old c.of.result.now) c.new-text.ensures
    ∙ cond-true _ _ _ (le-leb (0 + length c.of.result.now) 1024 few)
    ∙ c.of.ensures
