use Rattle.std.proofs.Common.{◌≡◌, sym, refl, ◌∙◌}
use Rattle.std.specs.Ordering.{nat_cmp}
use Rattle.std.specs.List.{concat}
use Rattle.std.specs.Cmp.Lexicographic.{slice_cmp}
use Rattle.std.proofs.lemmas.Iterator.Consumers.{YieldsList-at, YieldsList-from_first}
use Rattle.std.proofs.lemmas.Iterator.Search.{cmp_from_yields_List}
use Rattle.order.specs.Keyed.{bytes_lexical}
use Rattle.escaping.specs.Left.{bytes_left, pieces_left}
use Rattle.escaping.proofs.compare.compare_pieces.Goals as goal

pub returns : goal.returns
returns c =
    let a = concat (pieces_left c.args.ours) in
    let b = concat (pieces_left c.args.theirs) in
    let e : c.cmp.result ≡ slice_cmp nat_cmp a b =
    cmp_from_yields_List (λ x y. y ≡ x) _ nat_cmp c.cmp.result c.cmp.ensures.ran
    (YieldsList-from_first (λ x. x) bytes_left a c.of.ensures)
    (λ it same. YieldsList-at same (YieldsList-from_first (λ x. x) bytes_left b c.of-2.ensures))
    (λ x y. refl) in
    e ∙ sym (bytes_lexical a b)
