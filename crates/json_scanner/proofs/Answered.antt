-- What the answer says of the text, and that one answer alone says it.
use Rattle.std.proofs.Common.{◌≡◌, ℕ, ◌≤◌, false, List, length, Ok, Err, Result, sym, refl, ap, ◌∙◌, subst, inl, inr, arith}
use Rattle.json_scanner.specs.declared.modes.Fault.{Fault}
use Rattle.json_scanner.specs.declared.modes.Fault.TheVariants as fault
use Rattle.json_scanner.specs.Grammar.{Tree, Text, over, size}
use Rattle.json_scanner.specs.Machine.{forgotten, fresh, scan, run, start}
use Rattle.json_scanner.specs.Faults.{place_of, number_of, CountsFirst, Faulty}
use Rattle.json_scanner.specs.Theorem.{Builds, Reads, Alone}
use Rattle.json_scanner.proofs.Shape.{Right}
use Rattle.json_scanner.proofs.Complete.{text_run}
use Rattle.json_scanner.proofs.Places.{malformed, sound, stands}
use Rattle.json_scanner.proofs.Firsts.{first_fault}
use Rattle.json_scanner.proofs.Bridge.{scan-run}

within_limits : (s : List ℕ) (t : Tree) → Text t s → run start 0 s ≡ Ok t → (over 0 t ≡ false) × (size t ≤ 4096)
within_limits s t tx = text_run (length s) (λ o. o ≡ Ok t → (over 0 t ≡ false) × (size t ≤ 4096)) tx refl (λ _ _ _ _ e. cc) (λ ov le _. (ov, le))

one_value : (s : List ℕ) (t v : Tree) → run start 0 s ≡ Ok t → Text v s → v ≡ t
one_value s t v e tx = text_run (length s) (λ o. o ≡ Ok t → v ≡ t) tx refl (λ _ _ _ _ q. cc) (λ _ _ q. cc) e

pub accepted : (s : List ℕ) (v : Tree) → Text v s → over 0 v ≡ false → size v ≤ 4096 → run start 0 s ≡ Ok v
accepted s v tx ov le = text_run (length s) (λ o. o ≡ Ok v) tx refl (λ out _ _ _. absurd (out (ov, omega arith))) (λ _ _. refl)

faulty : (s : List ℕ) (f : Fault) → run start 0 s ≡ Err f → Right s f → Faulty s f
faulty s (fault.Malformed p) e h = malformed s p e
faulty s (fault.Nested p) e h = h
faulty s (fault.Number p) e h = h
faulty s (fault.Crowded p) e h = h

same_fault : (s : List ℕ) (f g : Fault) → run start 0 s ≡ Err f → run start 0 s ≡ Err g → f ≡ g
same_fault s f g p q = let e : ◌≡◌ {A = Result Tree Fault} (Err f) (Err g) = sym p ∙ q in cc

builds_run : (s : List ℕ) (r : Result Tree Fault) → run start 0 s ≡ r → Builds s r
builds_run s (Ok t) e =
    let tx = sound s t e in
    let lim = within_limits s t tx e in
    record { text = tx; fits = lim.0; few = lim.1; one = λ v h. one_value s t v e h }
builds_run s (Err f) e =
    record { faulty = faulty s f e (stands s f e); before = λ g h. let k = first_fault s g h in subst (λ x. CountsFirst x g) (same_fault s k.0 f k.1 e) k.2 }

-- what the machine builds
pub builds : (s : List ℕ) → Builds s (run start 0 s)
builds s = builds_run s (run start 0 s) refl

forget_reads : (s : List ℕ) (r : Result Tree Fault) → Builds s r → Reads s (forgotten r)
forget_reads s (Ok t) h = (t, h)
forget_reads s (Err f) h = h

-- the answer of the scanner
pub reads : (s : List ℕ) → Reads s (forgotten (scan fresh 0 s))
reads s = subst (Reads s) (sym (scan-run s 0 start)) (forget_reads s (run start 0 s) (builds s))

-- ---- one answer alone

same_number : (f g : Fault) → place_of f ≡ place_of g → number_of f ≡ number_of g → f ≡ g
same_number (fault.Malformed p) (fault.Malformed q) e h = ap fault.Malformed e
same_number (fault.Malformed p) (fault.Nested q) e h = absurd (omega arith)
same_number (fault.Malformed p) (fault.Number q) e h = absurd (omega arith)
same_number (fault.Malformed p) (fault.Crowded q) e h = absurd (omega arith)
same_number (fault.Nested p) (fault.Malformed q) e h = absurd (omega arith)
same_number (fault.Nested p) (fault.Nested q) e h = ap fault.Nested e
same_number (fault.Nested p) (fault.Number q) e h = absurd (omega arith)
same_number (fault.Nested p) (fault.Crowded q) e h = absurd (omega arith)
same_number (fault.Number p) (fault.Malformed q) e h = absurd (omega arith)
same_number (fault.Number p) (fault.Nested q) e h = absurd (omega arith)
same_number (fault.Number p) (fault.Number q) e h = ap fault.Number e
same_number (fault.Number p) (fault.Crowded q) e h = absurd (omega arith)
same_number (fault.Crowded p) (fault.Malformed q) e h = absurd (omega arith)
same_number (fault.Crowded p) (fault.Nested q) e h = absurd (omega arith)
same_number (fault.Crowded p) (fault.Number q) e h = absurd (omega arith)
same_number (fault.Crowded p) (fault.Crowded q) e h = ap fault.Crowded e

both_first : (f g : Fault) → CountsFirst f g → CountsFirst g f → f ≡ g
both_first f g (inl a) (inl b) = absurd (omega arith)
both_first f g (inl a) (inr b) = absurd (let e = b.0 in omega arith)
both_first f g (inr a) (inl b) = absurd (let e = a.0 in omega arith)
both_first f g (inr a) (inr b) = let x = a.1 in let y = b.1 in same_number f g a.0 (omega arith)

read_as : (s : List ℕ) (q : Result (Unit {0}) Fault) → Reads s q → q ≡ forgotten (run start 0 s)
read_as s (Ok x) h = let k = h.1 in sym (ap forgotten (accepted s h.0 k.text k.fits k.few))
read_as s (Err f) h =
    let k = first_fault s f h.faulty in
    let back = h.before k.0 (faulty s k.0 k.1 (stands s k.0 k.1)) in
    ap Err (both_first f k.0 back k.2) ∙ sym (ap forgotten k.1)

pub alone : (s : List ℕ) → Alone s (forgotten (scan fresh 0 s))
alone s q h = read_as s q h ∙ sym (scan-run s 0 start)
