use Rattle.std.proofs.Common.{◌≡◌, ◌<◌, length, None, Some, ap, arith, rules}
use Rattle.base64_texts.specs.Base64.{decoded}
use Rattle.base64_texts.specs.Base64Decoder.{octets}
use Rattle.base64_texts.proofs.Base64Steps.{decoded-split, counted_more, counted_end}
use Rattle.base64_texts.proofs.base64.decoded_len.Goals as goal

pub returns-in_err-four_signs : goal.returns-in_err-four_signs
returns-in_err-four_signs c =
    let t = c.in-Some.ensures.cases in
    let e : decoded c.loop-signs.left.now ≡ None = decoded-split c.loop-signs.left.now c.in-Some.signs.now c.in-Some.rest.now c.is_empty.result None t.0 t.1 t.2 c.is_empty.ensures c.in_err-four_signs.ensures in
    rw (c.loop-signs.invariant.counted, e) c.from_residual.ensures

pub loop-signs-preserved : goal.loop-signs-preserved
loop-signs-preserved c =
    let t = c.in-Some.ensures.cases in
    let e = decoded-split c.loop-signs.left.now c.in-Some.signs.now c.in-Some.rest.now c.is_empty.result (Some (octets c.in_ok-four_signs.field-0)) t.0 t.1 t.2 c.is_empty.ensures c.in_ok-four_signs.ensures in
    record {
      counted = counted_more _ (decoded c.loop-signs.left.now) (decoded c.in-Some.rest.now) (octets c.in_ok-four_signs.field-0) c.loop-signs.len (length c.as_slice.result.now)
          c.loop-signs.invariant.counted e (ap length c.as_slice.ensures.value);
      within = omega (arith, c.loop-signs.invariant.within, t.2);
    }

pub returns : goal.returns
returns c =
    let few : length c.loop-signs.left.now < 4 = search rules in
    rw (c.then_some.ensures, c.is_empty-2.ensures) (counted_end _ c.loop-signs.left.now c.loop-signs.len few c.loop-signs.invariant.counted)
