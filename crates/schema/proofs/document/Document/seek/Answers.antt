use Rattle.std.proofs.Common.{rules, tests, ◌≡◌, ℕ, Bool, ◌+◌, ◌-◌, arith, refl, sym, ◌∙◌}
use Rattle.std.proofs.lemmas.Iterator.{YieldsList-from_range}
use Rattle.std.proofs.lemmas.Iterator.Adapters.{option_map_id}
use Rattle.std.proofs.lemmas.Iterator.Search.{find_from_yields_List}
use Rattle.std.specs.Str.{bytes_eq}
use Rattle.schema.specs.Entries.{key_in}
use Rattle.schema.proofs.document.Document.seek.Goals as goal

pub returns : goal.returns
returns c =
    let end : ℕ = c.args.span.first + c.args.span.count in
    let n : end - c.args.span.first ≡ c.args.span.count = omega arith in
    let test : ℕ → Bool = λ k. bytes_eq (key_in c.args.self.text.now c.args.self.entries.now k) c.args.key.now in
    let e = find_from_yields_List test _ _ c.find.result c.find.ensures.ran (YieldsList-from_range c.args.span.first end c.args.span.count refl n) (λ x b q k. search (rules, tests)) in
    sym (option_map_id c.find.result) ∙ e
