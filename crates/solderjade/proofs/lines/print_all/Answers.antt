use Rattle.std.proofs.Common.{◌≡◌, [], ◌∷◌, ◌++◌, Ok, vec_items, string_bytes, ap, ◌∙◌, arith}
use Rattle.solderjade.proofs.Showing.{lines_all, lines_more}
use Rattle.solderjade.proofs.lines.print_all.Goals as goal

pub loop-word-preserved : goal.loop-word-preserved
loop-word-preserved g c = λ prints h.
    let word = string_bytes c.word-item.result in
    let gives : vec_items c.in_ok-printed.printed ≡ prints c.as_bytes.result.now = h c.args.heap c.as_bytes.result (Ok c.in_ok-printed.printed) c.in_ok-printed.ensures in
    let one : c.deref.result.now ≡ prints word = c.deref.ensures.value ∙ (gives ∙ ap prints c.as_bytes.ensures.value) in
    lines_more prints string_bytes c.args.words.now c.loop-word.word-index c.word-item.result (omega arith) c.word-item.is (c.loop-word.invariant prints h)
    (c.in_ok-push_line.ensures ∙ ap (λ t. vec_items c.loop-word.lines ++ (t ++ 10 ∷ [])) one)

pub returns : goal.returns
returns g c = λ prints h. lines_all prints string_bytes c.args.words.now c.loop-word.word-index (omega arith) (c.loop-word.invariant prints h)
