-- Writing an escape, piece by piece.
use Rattle.std.proofs.Common.{◌≡◌, ℕ, ◌+◌, ◌≤◌, cond, List, [], ◌∷◌, length, sym, ap, ◌∙◌, arith, length-append}
use Rattle.std.specs.List.{concat}
use Rattle.std.proofs.lemmas.Bool.{le-leb}
use Rattle.writer.specs.Written.{put, written}
use Rattle.writer.proofs.Puts.{Went, put_none}

-- a piece more is written
pub more_written : (d out out' : List ℕ) (at at' n : ℕ) (text whole : List ℕ) (left left' : List (List ℕ)) → Went out at text out' at' → left ≡ text ∷ left' → put out at (concat left) ≡ put d 0 whole → at + length (concat left) ≡ n
    → (put out' at' (concat left') ≡ put d 0 whole) × (at' + length (concat left') ≡ n)
more_written d out out' at at' n text whole left left' g e p q =
    let n = length-append text (concat left') in
    (g.before (concat left') ∙ ap (λ t. put out at (concat t)) (sym e) ∙ p, omega (arith, g.end, ap (λ t. length (concat t)) e))

-- nothing is left to write
pub all_written : (d out : List ℕ) (at : ℕ) (whole : List ℕ) (left : List (List ℕ)) → left ≡ [] → put out at (concat left) ≡ put d 0 whole → length whole ≤ length d → out ≡ written d 0 whole
all_written d out at whole left e p h =
    sym (ap (λ t. put out at (concat t)) e ∙ put_none out at) ∙ p ∙ sym (ap (λ b. cond b (put d 0 whole) d) (le-leb (0 + length whole) (length d) (omega arith)))
