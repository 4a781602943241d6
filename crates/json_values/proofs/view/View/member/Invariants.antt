use Rattle.std.proofs.Common.{◌≡◌, ℕ, ◌-◌, ◌<◌, ◌≤◌, length}
use Rattle.json_values.specs.Meaning.{key_at}
use Rattle.json_values.specs.Texts.{texts_of}
use Rattle.json_values.proofs.Seeks.{Rises}
use Rattle.json_values.proofs.view.View.member.Given as goal

abbrev pub invariant-loop-low : goal.invariant-loop-low
invariant-loop-low l =
    (l.low ≤ l.high) × (l.high ≤ length l.members)
    × (Rises (key_at (texts_of l.self.stores) l.members) 0 (length l.members) → (i : ℕ) → 0 ≤ i → i < l.low → key_at (texts_of l.self.stores) l.members i ≡ l.key → ⊥)
    × (Rises (key_at (texts_of l.self.stores) l.members) 0 (length l.members) → (i : ℕ) → l.high ≤ i → i < length l.members → key_at (texts_of l.self.stores) l.members i ≡ l.key → ⊥)

abbrev pub decreases-loop-low : goal.decreases-loop-low
decreases-loop-low l = l.high - l.low
