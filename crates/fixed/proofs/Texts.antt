-- Laws of a text of bounded length.
use Rattle.std.proofs.Common.{◌≡◌, ℕ, ◌+◌, ◌-◌, ◌≤◌, List, ◌++◌, length, take, drop, replicate, sym, ap, ◌∙◌, arith, length-append, length-take, length-drop}
use Rattle.std.proofs.lemmas.List.{drop-drop, drop-replicate}
use Rattle.std.proofs.lemmas.Slice.{drop-put_mid, take-put_mid}
use borrow.Rule.Slice.PartMut.{put_mid, post_of}
use Rattle.fixed.specs.Texts.{Kept}
use Rattle.fixed.specs.declared.text.BoundedText.TheInside.{Inside}

-- a text has at most 1,024 bytes
pub text_few : (t : Inside) → Kept t → length (take t.len t.bytes) ≤ 1024
text_few t h = omega (arith, length-take t.len t.bytes, h.within)

-- the first `len` of `old` with `more` written behind them
pub written : (len k : ℕ) (old part more : List ℕ) → len ≤ length old → part ≡ more → take (len + length more) (put_mid len k old part) ≡ take len old ++ more
written len k old part more h e =
    take-put_mid len k old part (len + length more) (ap (λ (xs : List ℕ). len + length xs) (sym e)) h ∙ ap (λ (xs : List ℕ). take len old ++ xs) e

-- bytes written right behind a text are a part of it, and zeros still lie behind them
pub written_kept : (t : Inside) (part : List ℕ) (to : ℕ) → Kept t → to ≡ t.len + length part → to ≤ 1024
    → Kept (record { bytes = put_mid t.len (to - t.len) t.bytes part; len = to })
written_kept t part to h e few =
    let k : to - t.len ≡ length part = omega arith in
    let fits : t.len ≤ length t.bytes = omega (arith, h.room, h.within) in
    record {
      room = omega (arith, h.room, length-append (take t.len t.bytes) (part ++ post_of t.len (to - t.len) t.bytes), length-append part (post_of t.len (to - t.len) t.bytes), length-take t.len t.bytes, length-drop t.len t.bytes, length-drop (to - t.len) (drop t.len t.bytes));
      within = few;
      blank = drop-put_mid t.len (to - t.len) t.bytes part to (omega arith) fits (sym k)
          ∙ ap (λ n. drop n t.bytes) (omega arith)
          ∙ sym (drop-drop (length part) t.len t.bytes)
          ∙ ap (drop (length part)) h.blank
          ∙ drop-replicate (length part) (1024 - t.len) 0
          ∙ ap (λ n. replicate n 0) (omega arith);
    }
