use Rattle.std.proofs.Common.{◌≡◌, ap, ◌∙◌, arith, rules}
use Rattle.base64_texts.specs.Base64.{decoded}
use Rattle.solderjade.specs.Shown.{hexed, shown_bytes}
use Rattle.solderjade.proofs.Showing.{whole_decoded}
use Rattle.solderjade.proofs.bytes.line.Goals as goal

pub returns : goal.returns
returns c =
    let n = c.in_ok-room.room.len in
    let asked : n ≡ c.in-Some.len = c.in_ok-room.ensures.len in
    let whole = whole_decoded (decoded c.args.word.now) c.in-Some.len n c.deref_mut.result.now c.decode.new.out c.in_ok-room.room.items c.in-Some.ensures asked c.deref_mut.ensures.len c.decode.ensures.buffer (omega arith) in
    let shown : hexed c.deref.result.now ≡ shown_bytes (decoded c.args.word.now) = ap hexed c.deref.ensures.value ∙ whole in
    search rules
