use Rattle.std.proofs.Common.{◌≡◌, length, sym, ◌∙◌, arith}
use Rattle.escaping.specs.Escape.{escape}
use Rattle.solderjade.proofs.Showing.{some_counted, whole_written}
use Rattle.solderjade.proofs.escape.line.Goals as goal

pub returns : goal.returns
returns c =
    let s = escape c.args.word.now in
    let n = c.in_ok-line.line.len in
    let asked : n ≡ c.in_ok-len.len = c.in_ok-line.ensures.len in
    let long : c.in_ok-len.len ≡ length s = some_counted (length s) c.in_ok-len.len (sym c.in_ok-len.ensures.ok_part ∙ c.escaped_len.ensures) in
    whole_written c.deref_mut.result.now c.escape_field_name.new.out c.in_ok-line.line.items s n c.deref_mut.ensures.len (sym (asked ∙ long)) c.escape_field_name.ensures.out (omega arith)
