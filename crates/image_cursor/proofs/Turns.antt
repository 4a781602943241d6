-- One turn of a walk over values.
use Rattle.std.proofs.Common.{◌≡◌, ℕ, zero, suc, ◌+◌, ◌-◌, ◌<◌, Bool, cond, List, Some, None, sym, ap, ◌∙◌, arith}
use Rattle.image.specs.Decode.{Head, parts, seen, then}
use Rattle.image_cursor.proofs.Walks.{past_more}
use Rattle.image_cursor.specs.Walking.{past}

module _ (ok : Head → List ℕ → Bool) (s : List ℕ) where
  -- no command stands there
  pub stop : (left : ℕ) → 0 < left → None ≡ seen s → past ok left s ≡ None
  stop zero h e = absurd (let z : ⊥ = omega arith in z)
  stop (suc k) h e = past_more ok k s ∙ ap (λ o. then o (λ c. cond (ok c.head c.rest) (past ok (parts c.head + k) c.rest) None)) (sym e)

  -- a command, and r behind it
  pub go : (left left' : ℕ) (h : Head) (r : List ℕ) → 0 < left → left' ≡ left - 1 + parts h → Some (record { head = h; rest = r }) ≡ seen s → past ok left s ≡ cond (ok h r) (past ok left' r) None
  go zero left' h r p q e = absurd (let z : ⊥ = omega arith in z)
  go (suc k) left' h r p q e =
      let n : parts h + k ≡ left' = omega arith in
      past_more ok k s
      ∙ ap (λ o. then o (λ c. cond (ok c.head c.rest) (past ok (parts c.head + k) c.rest) None)) (sym e)
      ∙ ap (λ m. cond (ok h r) (past ok m r) None) n
