-- Writes one after another.
use Rattle.std.proofs.Common.{◌≡◌, ℕ, ◌+◌, ◌-◌, ◌<◌, ◌≤◌, true, false, cond, List, [], ◌++◌, length, drop, sym, refl, ap, ◌∙◌, append_assoc, append-nil, add-zero, arith, length-append, drop_of_length-le}
use lib.Seq.{paste}
use borrow.Rule.Slice.PartMut.{put_mid}
use Rattle.std.proofs.lemmas.List.{take-append-drop}
use Rattle.std.proofs.lemmas.List.Edits.{paste_all, paste-paste, length-paste}
use Rattle.std.proofs.lemmas.Slice.{put_mid-paste}
use Rattle.std.proofs.lemmas.Bool.{le-leb, leb-true, leb-false}
use Rattle.writer.specs.Written.{fits, moved, put, written}

put-paste : (d : List ℕ) (at : ℕ) (s : List ℕ) → paste d at s (length s) ≡ put d at s
unfolding put
put-paste d at s = paste_all d at s (length s) refl

pub put_none : (d : List ℕ) (at : ℕ) → put d at [] ≡ d
unfolding put
put_none d at = rw (add-zero at) (take-append-drop at d)

pub length-put : (d : List ℕ) (at : ℕ) (s : List ℕ) → at + length s ≤ length d → length (put d at s) ≡ length d
length-put d at s h = ap length (sym (put-paste d at s)) ∙ length-paste d at s (length s) h (omega arith)

pub put-put : (d : List ℕ) (at : ℕ) (s t : List ℕ) → at ≤ length d → put (put d at s) (at + length s) t ≡ put d at (s ++ t)
put-put d at s t h =
    sym (ap (λ z. put z (at + length s) t) (put-paste d at s)) ∙ (sym (put-paste (paste d at s (length s)) (at + length s) t) ∙ (paste-paste d at s t (length s) (length t) refl refl h ∙ (ap (paste d at (s ++ t)) (sym (length-append s t)) ∙ put-paste d at (s ++ t))))

-- the same, where what is written first goes by its equations
pub put_then : (d : List ℕ) (at m : ℕ) (s t : List ℕ) {e f : List ℕ} → at ≤ length d → e ≡ put d at s → m ≡ at + length s → f ≡ put e m t → f ≡ put d at (s ++ t)
put_then d at m s t {e} {f} h p q r =
    r ∙ (ap (λ z. put z m t) p ∙ (ap (λ z. put (put d at s) z t) q ∙ put-put d at s t h))

-- a copy into `d[at..at + length s]`
pub put_mid_lem : (d : List ℕ) (at : ℕ) (s t : List ℕ) → t ≡ s → put_mid at ((at + length s) - at) d t ≡ put d at s
put_mid_lem d at s t e =
    let n : length s ≡ (at + length s) - at = omega arith in
    put_mid-paste at ((at + length s) - at) d t s (length s) e n refl ∙ put-paste d at s

-- a write that had room, and what is yet to be written behind it
pub record Went (out : List ℕ) (at : ℕ) (s : List ℕ) (out' : List ℕ) (at' : ℕ) : Type 0 where
  pub room : at + length s ≤ length out
  pub bytes : out' ≡ put out at s
  pub end : at' ≡ at + length s
  pub long : length out' ≡ length out
  pub before : (t : List ℕ) → put out' at' t ≡ put out at (s ++ t)

pub went : (out : List ℕ) (at : ℕ) (s : List ℕ) {out' : List ℕ} {at' : ℕ} → fits out at s ≡ true → out' ≡ written out at s → at' ≡ moved out at s → Went out at s out' at'
went out at s {out'} {at'} f p q =
    let room : at + length s ≤ length out = leb-true (at + length s) (length out) f in
    let bytes : out' ≡ put out at s = p ∙ ap (λ b. cond b (put out at s) out) f in
    let end : at' ≡ at + length s = q ∙ ap (λ b. cond b (at + length s) at) f in
    record {
      room = room;
      bytes = bytes;
      end = end;
      long = ap length bytes ∙ length-put out at s room;
      before = λ t. ap (λ o. put o at' t) bytes ∙ (ap (λ n. put (put out at s) n t) end ∙ put-put out at s t (omega arith));
    }

-- a write that had none
pub stayed : (out : List ℕ) (at : ℕ) (s : List ℕ) → fits out at s ≡ false → length out < at + length s
stayed out at s f = leb-false (at + length s) (length out) f

-- one write after another
pub went_then : (out : List ℕ) (at : ℕ) (s t : List ℕ) {out' out'' : List ℕ} {at' at'' : ℕ} → Went out at s out' at' → Went out' at' t out'' at'' → Went out at (s ++ t) out'' at''
went_then out at s t {out'} {out''} {at'} {at''} g h =
    let n = length-append s t in
    let bytes : out'' ≡ put out at (s ++ t) = h.bytes ∙ g.before t in
    record {
      room = omega (arith, g.end, g.long, h.room);
      bytes = bytes;
      end = omega (arith, g.end, h.end);
      long = h.long ∙ g.long;
      before = λ u. h.before u ∙ (g.before (t ++ u) ∙ ap (put out at) (sym (append_assoc s t u)));
    }

-- no room behind what was written
pub stayed_then : (out : List ℕ) (at : ℕ) (s t : List ℕ) {out' : List ℕ} {at' : ℕ} → Went out at s out' at' → fits out' at' t ≡ false → length out < at + length (s ++ t)
stayed_then out at s t {out'} {at'} g f =
    let n = length-append s t in
    omega (arith, stayed out' at' t f, g.end, g.long)

-- a write that fills the buffer
pub put_whole : (d s : List ℕ) → length s ≡ length d → put d 0 s ≡ s
unfolding put
put_whole d s h =
    let none : drop (0 + length s) d ≡ [] = drop_of_length-le d (omega arith) in
    ap (λ t. s ++ t) none ∙ append-nil s

pub written-whole : (d s : List ℕ) → length s ≡ length d → written d 0 s ≡ s
written-whole d s h = ap (λ b. cond b (put d 0 s) d) (le-leb (0 + length s) (length d) (omega arith)) ∙ put_whole d s h
