-- A text is written in two steps: its command with the length, and its bytes.
use Rattle.std.proofs.Common.{◌≡◌, ℕ, ◌+◌, ◌^◌, ◌<◌, Bool, true, false, cond, ltb, List, [], ◌∷◌, length, Result, Ok, Err, is_ok, sym, refl, ap, ◌∙◌, add-zero, arith}
use Rattle.image.specs.Image.{sized}
use Rattle.image.specs.Writing.{WritesSized, front}
use Rattle.std.proofs.lemmas.Bool.{and_from, and_right, lt-leb, lt-ltb, le-leb, le-ltb}
use Rattle.std.specs.Result.{MatchResult, OkIff}
use Rattle.writer.proofs.Puts.{Went, put_none, stayed_then, went, went_then}
use Rattle.writer.specs.Writes.{Writes}
use Rattle.writer.specs.Written.{be4, fits, put}
use Rattle.writer.specs.declared.ByteWriter.{ByteWriter}

same_either : {A : Type 0} (t : Bool) (x y : A) → x ≡ y → y ≡ cond t x y
same_either true x y e = sym e
same_either false x y e = refl

-- a length past four bytes: nothing is written, and nothing changes
pub too_long : {A E : Type 0} {old : ByteWriter} {b : ℕ} {s : List ℕ} {r : Result A E} → (length s < 2 ^ 32 → ⊥) → is_ok r ≡ false → WritesSized old old b s r
too_long {old = w} {b} {s} {r} h e =
    let long : ltb (length s) (2 ^ 32) ≡ false = le-ltb (length s) (2 ^ 32) (omega arith) in
    record {
      ok = rw (e, long) refl;
      at = rw (e, long) (same_either (fits w.out.now w.at []) (w.at + 0) w.at (add-zero w.at));
      out = rw (e, long) (same_either (fits w.out.now w.at []) (put w.out.now w.at []) w.out.now (put_none w.out.now w.at));
      name = refl;
    }

-- a length that four bytes hold, through a change of the error
pub length_held : {E F P : Type 0} (Q : E → Type 0) (r : Result ℕ E) {q : Result ℕ F} {n m : ℕ} → OkIff r P n → MatchResult r (λ x. q ≡ Ok x) Q → is_ok q ≡ is_ok r → q ≡ Ok m → P × (m ≡ n)
length_held Q (Ok x) h e v w = (h.0, (cc (h.1, e)))
length_held Q (Err d) h e v w = absurd (let z : ⊥ = cc in z)

-- a write that had room
abbrev pub Wrote : ByteWriter → ByteWriter → List ℕ → Type 0
Wrote old new s = Writes {A = ℕ} {E = ℕ} old new s (Ok 0)

module _ {B E : Type 0} {w v u : ByteWriter} {b : ℕ} {s : List ℕ} {r : Result B E} (short : length s < 2 ^ 32) (first : Wrote w v (front b s)) (last : Writes v u s r) where
  head : front b s ≡ b ∷ be4 (length s)
  head = ap (λ t. cond t (b ∷ be4 (length s)) []) (lt-ltb (length s) (2 ^ 32) short)

  begun : Went w.out.now w.at (b ∷ be4 (length s)) v.out.now v.at
  begun = rw head at (went w.out.now w.at (front b s) (sym first.ok) first.out first.at)

  by_room : (t : Bool) → is_ok r ≡ t → WritesSized w u b s r
  by_room true e =
      let all = went_then w.out.now w.at (b ∷ be4 (length s)) s begun (went v.out.now v.at s (sym last.ok ∙ e) last.out last.at) in
      record {
        ok = e ∙ sym (and_from (ltb (length s) (2 ^ 32)) (fits w.out.now w.at (sized b s)) (lt-ltb (length s) (2 ^ 32) short) (le-leb (w.at + length (sized b s)) (length w.out.now) all.room));
        at = rw e all.end;
        out = rw e all.bytes;
        name = last.name ∙ first.name;
      }
  by_room false e =
      let none = stayed_then w.out.now w.at (b ∷ be4 (length s)) s begun (sym last.ok ∙ e) in
      record {
        ok = e ∙ sym (and_right (ltb (length s) (2 ^ 32)) (fits w.out.now w.at (sized b s)) (lt-leb (w.at + length (sized b s)) (length w.out.now) none));
        at = rw e (last.at ∙ (ap (λ t. cond t (v.at + length s) v.at) (sym last.ok ∙ e) ∙ first.at));
        out = rw e (last.out ∙ (ap (λ t. cond t (put v.out.now v.at s) v.out.now) (sym last.ok ∙ e) ∙ first.out));
        name = last.name ∙ first.name;
      }

-- the command with the length had room, and then the bytes or not
pub two_steps : {B E : Type 0} {old mid new : ByteWriter} {b m : ℕ} {s : List ℕ} {r : Result B E} → (length s < 2 ^ 32) × (m ≡ length s) → Wrote old mid (b ∷ be4 m) → Writes mid new s r → WritesSized old new b s r
two_steps {old = w} {mid = v} {b = b} {m} {s} {r} h f g =
    let front_is : b ∷ be4 m ≡ front b s = ap (λ n. b ∷ be4 n) h.1 ∙ sym (ap (λ t. cond t (b ∷ be4 (length s)) []) (lt-ltb (length s) (2 ^ 32) h.0)) in
    let first : Wrote w v (front b s) = rw front_is at f in
    by_room h.0 first g (is_ok r) refl
