-- The reader and the grammar agree.
use Rattle.std.proofs.Common.{◌≡◌, ℕ, ◌+◌, ◌*◌, ◌≤◌, List, ◌∷◌, length, Some, sym, ap, ◌∙◌, arith, length-append}
use Rattle.std.proofs.lemmas.List.{length-map}
use Rattle.rule_syntax.specs.Syntax.{Compared, parsed}
use Rattle.rule_syntax.specs.Grammar.{phrase_text, phrase_says, more_text, Spells, RulesRead}
use Rattle.rule_syntax.proofs.Texts.{phrase_long, more_long}
use Rattle.rule_syntax.proofs.Complete.{rule_read}
use Rattle.rule_syntax.proofs.Sound.{parsed_sound}
use Rattle.rule_syntax.proofs.Unique.{reading_same}

pub spelled : (s : List ℕ) (cs : List Compared) → Spells s cs → parsed s ≡ Some cs
spelled s cs h = ap parsed (sym h.text) ∙ rule_read h.reading h.proper ∙ ap (λ x. Some x) h.means

-- a rule of n bytes has at most (n + 2) / 5 comparisons
pub parsed_few : (s : List ℕ) (cs : List Compared) → parsed s ≡ Some cs → 5 * length cs ≤ length s + 2
parsed_few s cs e =
    let r = parsed_sound s cs e in
    let p = r.reading.first in
    let ps = r.reading.more in
    omega (
      arith,
      ap length r.text,
      ap length r.means,
      length-map (p ∷ ps) phrase_says,
      length-append (phrase_text p) (more_text ps),
      phrase_long p r.proper.0,
      more_long ps r.proper.1,
    )

pub rules_read : RulesRead
rules_read = record { sound = parsed_sound; complete = spelled; one_reading = reading_same; few = parsed_few }
