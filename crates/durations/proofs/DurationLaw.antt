-- The reader and the grammar agree.
use Rattle.std.proofs.Common.{◌≡◌, ℕ, List, ℤ, Some, sym, ap, ◌∙◌}
use Rattle.durations.specs.Duration.{duration}
use Rattle.durations.specs.DurationGrammar.{Spells, DurationsRead}
use Rattle.durations.proofs.DurationComplete.{reading_read}
use Rattle.durations.proofs.DurationSound.{duration_sound}
use Rattle.durations.proofs.DurationUnique.{reading_same}

spelled : (s : List ℕ) (z : ℤ) → Spells s z → duration s ≡ Some z
spelled s z h = ap duration (sym h.text) ∙ reading_read h.reading h.proper h.within ∙ ap (λ v. Some v) h.means

pub durations_read : DurationsRead
durations_read = record { sound = duration_sound; complete = spelled; one_reading = reading_same }
