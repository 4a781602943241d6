use Rattle.std.proofs.Common.{◌≡◌, ◌<◌, ◌+◌, ◌++◌, [], true, false, length, None, Some, sym, refl, ap, ◌∙◌, add-zero, append_assoc, append-nil, arith, rules, length-append}
use Rattle.std.proofs.lemmas.Bool.{leb-true}
use Rattle.writer.specs.Written.{fits}
use Rattle.writer.proofs.Puts.{put_none, went, went_then, stayed_then}
use Rattle.base64_texts.specs.Base64Decoder.{bytes_of, octets}
use Rattle.base64_texts.proofs.Base64Steps.{some_group, some_more, bytes_end}
use Rattle.base64_texts.proofs.base64.write_all.Goals as goal

pub loop-signs-init : goal.loop-signs-init
loop-signs-init c = record {
  base64 = c.requires.base64;
  name = refl;
  front = ([], refl, record { room = search rules; bytes = sym (put_none _ _); end = sym (add-zero _); long = refl; before = λ t. refl });
}

pub returns-in_err-group : goal.returns-in_err-group
returns-in_err-group c =
    let t = c.in-Some.ensures.cases in
    let none : c.four_signs.result ≡ None = search rules in
    absurd (some_group c.loop-signs.left.now c.in-Some.signs.now c.in-Some.rest.now c.is_empty.result t.0 t.1 t.2 c.is_empty.ensures (rw none at c.four_signs.ensures) c.loop-signs.invariant.base64)

pub returns-in_err-map_err : goal.returns-in_err-map_err
returns-in_err-map_err c =
    let t = c.in-Some.ensures.cases in
    let rest = c.in-Some.rest.now in
    let group = octets c.in_ok-group.group in
    let some : c.four_signs.result ≡ Some c.in_ok-group.group = search rules in
    let more = some_more c.loop-signs.left.now c.in-Some.signs.now rest c.is_empty.result group t.0 t.1 t.2 c.is_empty.ensures (rw some at c.four_signs.ensures) c.loop-signs.invariant.base64 in
    let (front, parts, g) = c.loop-signs.invariant.front in
    let none : fits c.loop-signs.writer.out.now c.loop-signs.writer.at group ≡ false = search rules in
    let short = stayed_then c.args.writer.now.out.now c.args.writer.now.at front group g none in
    let room = leb-true _ _ c.requires.room in
    let long : length (bytes_of c.args.text.now) ≡ length front + (length group + length (bytes_of rest)) = rw (parts, more.1, length-append, length-append) refl in
    absurd (omega (arith, length-append front group))

pub loop-signs-preserved : goal.loop-signs-preserved
loop-signs-preserved c =
    let t = c.in-Some.ensures.cases in
    let rest = c.in-Some.rest.now in
    let group = octets c.in_ok-group.group in
    let some : c.four_signs.result ≡ Some c.in_ok-group.group = search rules in
    let more = some_more c.loop-signs.left.now c.in-Some.signs.now rest c.is_empty.result group t.0 t.1 t.2 c.is_empty.ensures (rw some at c.four_signs.ensures) c.loop-signs.invariant.base64 in
    let (front, parts, g) = c.loop-signs.invariant.front in
    let room : fits c.loop-signs.writer.out.now c.loop-signs.writer.at group ≡ true = search rules in
    let h = went c.loop-signs.writer.out.now c.loop-signs.writer.at group room (rw (← c.as_slice.ensures.value) c.put.ensures.out) (rw (← c.as_slice.ensures.value) c.put.ensures.at) in
    record {
      base64 = more.0;
      name = c.put.ensures.name ∙ c.loop-signs.invariant.name;
      front = (front ++ group, parts ∙ (ap (λ s. front ++ s) more.1 ∙ sym (append_assoc front group (bytes_of rest))), went_then _ _ front group g h);
    }

pub returns : goal.returns
returns c =
    let few : length c.loop-signs.left.now < 4 = search rules in
    let (front, parts, g) = c.loop-signs.invariant.front in
    let all : bytes_of c.args.text.now ≡ front = parts ∙ (ap (λ s. front ++ s) (bytes_end c.loop-signs.left.now few) ∙ append-nil front) in
    let room : fits c.args.writer.now.out.now c.args.writer.now.at front ≡ true = rw all at c.requires.room in
    record { ok = sym c.requires.room; at = rw (all, room) g.end; out = rw (all, room) g.bytes; name = c.loop-signs.invariant.name }
