-- A command with its operand is read as it was written.
use Rattle.std.proofs.Common.{◌≡◌, ℕ, ◌-◌, ◌^◌, ◌<◌, ◌≤◌, Bool, true, false, cond, ◌&&◌, eqb, leb, List, [], ◌∷◌, ◌++◌, length, take, drop, ℤ, Some, None, Option, sym, refl, ap, ◌∙◌, subst, arith, length-append, length-drop, length-take, w64, SFits, to_z, of_z}
use mir.ValLaws.{of_z_fits, to_z-Fits}
use Rattle.std.proofs.lemmas.Option.{cond_some, none-some}
use Rattle.image.proofs.Operands.{number4-be4, number8-be8, spelled4, spelled8}
use Rattle.image.specs.Commands.{code, coded, command, commands}
use Rattle.image.specs.Decode.{Head, items, lone, members, Seen, eight, four, number4, number8, operand, part, seen}
use Rattle.image.specs.Image.{scalar_image}
use Rattle.image.specs.Typed.{Octets, ProperScalar, Scalar, Short, bool, bytes, duration, int, null, text, uint}
use Rattle.image.specs.declared.command.Command.{Command}
use Rattle.image.specs.declared.command.Command.TheVariants.{Null, False, True, Int, Uint, Empty, Text, Bytes, Duration, List as ListOf, Map, Present, Own, Old}
use Rattle.std.proofs.ByRecursion.{All-drop, All-take}
use Rattle.std.proofs.lemmas.List.{drop_at, take-append-drop, take_at}
use Rattle.std.proofs.lemmas.Int.{of_z-to_z, to_z-of_z}
use Rattle.std.proofs.lemmas.Bool.{and_from, and_parts, eqb-true, le-leb, leb-true}
use Rattle.writer.specs.Written.{be4, be8}

-- the bytes of a command with its operand
abbrev pub head_image : Head → List ℕ
head_image (lone s) = scalar_image s
head_image (items n) = 0x0A ∷ be4 n
head_image (members n) = 0x0B ∷ be4 n

abbrev pub ProperHead : Head → Type 0
ProperHead (lone s) = ProperScalar s
ProperHead (items n) = n < 2 ^ 32
ProperHead (members n) = n < 2 ^ 32

abbrev pub behold : Head → List ℕ → Seen
behold h s = record { head = h; rest = s }

-- ---- what was written is read

pub four_some : (f : ℕ → Head) (s : List ℕ) → 4 ≤ length s → four f s ≡ Some (behold (f (number4 s)) (drop 4 s))
four_some f s h = ap (λ b. cond b (Some (behold (f (number4 s)) (drop 4 s))) None) (le-leb 4 (length s) h)

pub eight_some : (f : ℕ → Scalar) (s : List ℕ) → 8 ≤ length s → eight f s ≡ Some (behold (lone (f (number8 s))) (drop 8 s))
eight_some f s h = ap (λ b. cond b (Some (behold (lone (f (number8 s))) (drop 8 s))) None) (le-leb 8 (length s) h)

pub part_some : (f : List ℕ → Scalar) (s : List ℕ) → 4 ≤ length s → number4 s ≤ length s - 4 → part f s ≡ Some (behold (lone (f (take (number4 s) (drop 4 s)))) (drop (number4 s) (drop 4 s)))
part_some f s h k =
    ap (λ b. cond b (Some (behold (lone (f (take (number4 s) (drop 4 s)))) (drop (number4 s) (drop 4 s)))) None) (and_from (leb 4 (length s)) (leb (number4 s) (length s - 4)) (le-leb 4 (length s) h) (le-leb (number4 s) (length s - 4) k))

four_read : (f : ℕ → Head) (n : ℕ) (r : List ℕ) → n < 2 ^ 32 → four f (be4 n ++ r) ≡ Some (behold (f n) r)
four_read f n r h = four_some f (be4 n ++ r) (omega arith) ∙ ap (λ m. Some (behold (f m) r)) (number4-be4 n r h)

eight_read : (f : ℕ → Scalar) (n : ℕ) (r : List ℕ) → n < 2 ^ 64 → eight f (be8 n ++ r) ≡ Some (behold (lone (f n)) r)
eight_read f n r h = eight_some f (be8 n ++ r) (omega arith) ∙ ap (λ m. Some (behold (lone (f m)) r)) (number8-be8 n r h)

part_read : (f : List ℕ → Scalar) (s r : List ℕ) → length s < 2 ^ 32 → part f (be4 (length s) ++ (s ++ r)) ≡ Some (behold (lone (f s)) r)
part_read f s r h =
    let n : number4 (be4 (length s) ++ (s ++ r)) ≡ length s = number4-be4 (length s) (s ++ r) h in
    part_some f (be4 (length s) ++ (s ++ r)) (omega arith) (omega (arith, n, length-append s r))
    ∙ ap (λ m. Some (behold (lone (f (take m (s ++ r)))) (drop m (s ++ r)))) n
    ∙ ap (λ t. Some (behold (lone (f t)) (drop (length s) (s ++ r)))) (take_at s r (length s) refl)
    ∙ ap (λ t. Some (behold (lone (f s)) t)) (drop_at s r (length s) refl)

signed_read : (f : ℤ → Scalar) (z : ℤ) (r : List ℕ) → SFits w64 z → eight (λ n. f (to_z w64 n)) (be8 (of_z w64 z) ++ r) ≡ Some (behold (lone (f z)) r)
signed_read f z r h =
    eight_read (λ n. f (to_z w64 n)) (of_z w64 z) r (of_z_fits w64 z h).fits ∙ ap (λ y. Some (behold (lone (f y)) r)) (to_z-of_z w64 z h)

pub head_read : (h : Head) (r : List ℕ) → ProperHead h → seen (head_image h ++ r) ≡ Some (behold h r)
unfolding seen
head_read (lone null) r p = refl
head_read (lone (bool false)) r p = refl
head_read (lone (bool true)) r p = refl
head_read (lone (int z)) r p = signed_read int z r p
head_read (lone (uint n)) r p = eight_read uint n r p
head_read (lone (text s)) r p = part_read text s r p.small
head_read (lone (bytes s)) r p = part_read bytes s r p.small
head_read (lone (duration z)) r p = signed_read duration z r p
head_read (items n) r p = four_read items n r p
head_read (members n) r p = four_read members n r p

-- ---- what is read was written

-- what a command with its operand comes from
pub record Comes (b : ℕ) (s : List ℕ) (c : Seen) : Type 0 where
  pub proper : ProperHead c.head
  pub bytes_are : b ∷ s ≡ head_image c.head ++ c.rest

coded-step : (b : ℕ) (c d : Command) (o : Option Command) (t : Bool) → eqb (code d) b ≡ t → (o ≡ Some c → code c ≡ b) → cond t (Some d) o ≡ Some c → code c ≡ b
coded-step b c d o true f ih g = let h : d ≡ c = cc in ap code (sym h) ∙ eqb-true (code d) b f
coded-step b c d o false f ih g = ih g

coded-code : (b : ℕ) (c : Command) (cs : List Command) → coded b cs ≡ Some c → code c ≡ b
coded-code b c [] e = let z : ◌≡◌ {A = ℕ} 0 1 = cc in absurd (let y : ⊥ = omega arith in y)
coded-code b c (d ∷ cs) e = coded-step b c d (coded b cs) (eqb (code d) b) refl (coded-code b c cs) e

pub command-code : (b : ℕ) (c : Command) → command b ≡ Some c → code c ≡ b
command-code b c e = coded-code b c commands e

from_four : (k : ℕ) (f : ℕ → Head) (proper : (n : ℕ) → n < 2 ^ 32 → ProperHead (f n)) (image-is : (n : ℕ) → head_image (f n) ≡ k ∷ be4 n) (s : List ℕ) (c : Seen) → Octets s → four f s ≡ Some c → Comes k s c
from_four k f proper image-is s c o e =
    let w = cond_some (leb 4 (length s)) (behold (f (number4 s)) (drop 4 s)) c e in
    let sp = spelled4 s (leb-true 4 (length s) w.0) o in
    let r : Comes k s (behold (f (number4 s)) (drop 4 s)) = record { proper = proper (number4 s) sp.1; bytes_are = ap (λ t. k ∷ t) sp.0 ∙ ap (λ t. t ++ drop 4 s) (sym (image-is (number4 s))) } in
    subst (Comes k s) w.1 r

from_eight : (k : ℕ) (f : ℕ → Scalar) (proper : (n : ℕ) → n < 2 ^ 64 → ProperScalar (f n)) (image-is : (n : ℕ) → n < 2 ^ 64 → scalar_image (f n) ≡ k ∷ be8 n) (s : List ℕ) (c : Seen) → Octets s → eight f s ≡ Some c → Comes k s c
from_eight k f proper image-is s c o e =
    let w = cond_some (leb 8 (length s)) (behold (lone (f (number8 s))) (drop 8 s)) c e in
    let sp = spelled8 s (leb-true 8 (length s) w.0) o in
    let r : Comes k s (behold (lone (f (number8 s))) (drop 8 s)) = record { proper = proper (number8 s) sp.1; bytes_are = ap (λ t. k ∷ t) sp.0 ∙ ap (λ t. t ++ drop 8 s) (sym (image-is (number8 s) sp.1)) } in
    subst (Comes k s) w.1 r

from_part : (k : ℕ) (f : List ℕ → Scalar) (proper : (t : List ℕ) → Short t → ProperScalar (f t)) (image-is : (t : List ℕ) → scalar_image (f t) ≡ k ∷ (be4 (length t) ++ t)) (s : List ℕ) (c : Seen) → Octets s → part f s ≡ Some c → Comes k s c
from_part k f proper image-is s c o e =
    let n = number4 s in
    let d = drop 4 s in
    let w = cond_some (leb 4 (length s) && leb n (length s - 4)) (behold (lone (f (take n d))) (drop n d)) c e in
    let v = and_parts (leb 4 (length s)) (leb n (length s - 4)) w.0 in
    let sp = spelled4 s (leb-true 4 (length s) v.0) o in
    let fits : n ≤ length s - 4 = leb-true n (length s - 4) v.1 in
    let long : length (take n d) ≡ n = omega (arith, length-take n d, length-drop 4 s) in
    let short : Short (take n d) = record { small = omega (arith, long, sp.1); octets = All-take (λ b. b < 256) n d (All-drop (λ b. b < 256) 4 s o) } in
    let bytes_are : k ∷ s ≡ scalar_image (f (take n d)) ++ drop n d =
    ap (λ t. k ∷ t) sp.0
    ∙ ap (λ t. k ∷ (be4 n ++ t)) (sym (take-append-drop n d))
    ∙ ap (λ m. k ∷ (be4 m ++ (take n d ++ drop n d))) (sym long)
    ∙ ap (λ t. t ++ drop n d) (sym (image-is (take n d))) in
    let r : Comes k s (behold (lone (f (take n d))) (drop n d)) = record { proper = proper (take n d) short; bytes_are = bytes_are } in
    subst (Comes k s) w.1 r

plainly : (k : ℕ) (h : Head) (s : List ℕ) (c : Seen) → ProperHead h → head_image h ≡ k ∷ [] → ◌≡◌ {A = Option Seen} (Some (behold h s)) (Some c) → Comes k s c
plainly k h s c p i e =
    let w : behold h s ≡ c = cc in
    let r : Comes k s (behold h s) = record { proper = p; bytes_are = ap (λ t. t ++ s) (sym i) } in
    subst (Comes k s) w r

by_command : (o : Command) (s : List ℕ) (c : Seen) → Octets s → operand (Some o) s ≡ Some c → Comes (code o) s c
by_command Null s c q e = plainly 0x00 (lone null) s c tt refl e
by_command False s c q e = plainly 0x01 (lone (bool false)) s c tt refl e
by_command True s c q e = plainly 0x02 (lone (bool true)) s c tt refl e
by_command Int s c q e = from_eight 0x03 (λ n. int (to_z w64 n)) (λ n h. to_z-Fits w64 n (record { fits = h })) (λ n h. ap (λ m. 0x03 ∷ be8 m) (of_z-to_z w64 n h)) s c q e
by_command Uint s c q e = from_eight 0x04 uint (λ n h. h) (λ n h. refl) s c q e
by_command Empty s c q e = absurd (none-some c e)
by_command Text s c q e = from_part 0x06 text (λ t h. h) (λ t. refl) s c q e
by_command Bytes s c q e = from_part 0x07 bytes (λ t h. h) (λ t. refl) s c q e
by_command Duration s c q e = from_eight 0x09 (λ n. duration (to_z w64 n)) (λ n h. to_z-Fits w64 n (record { fits = h })) (λ n h. ap (λ m. 0x09 ∷ be8 m) (of_z-to_z w64 n h)) s c q e
by_command ListOf s c q e = from_four 0x0A items (λ n h. h) (λ n. refl) s c q e
by_command Map s c q e = from_four 0x0B members (λ n h. h) (λ n. refl) s c q e
by_command Present s c q e = absurd (none-some c e)
by_command Own s c q e = absurd (none-some c e)
by_command Old s c q e = absurd (none-some c e)

by_byte : (b : ℕ) (o : Option Command) (s : List ℕ) (c : Seen) → Octets s → command b ≡ o → operand o s ≡ Some c → Comes b s c
by_byte b None s c q m e = absurd (none-some c e)
by_byte b (Some o) s c q m e = subst (λ k. Comes k s c) (command-code b o m) (by_command o s c q e)

-- the bytes that a command was read from are its image
pub head_written : (s : List ℕ) (c : Seen) → Octets s → seen s ≡ Some c → ProperHead c.head × (s ≡ head_image c.head ++ c.rest)
unfolding seen
head_written [] c q e = absurd (none-some c e)
head_written (b ∷ s) c q e = let r = by_byte b (command b) s c q.1 refl e in (r.proper, r.bytes_are)
