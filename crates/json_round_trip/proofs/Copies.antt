-- A copy, from what reading the text leaves.
use Rattle.std.proofs.Common.{◌≡◌, ℕ, List, Ok, Err, Result, sym, ap, ◌∙◌, subst, arith}
use Rattle.json_values.specs.Value.{Value}
use Rattle.json_values.specs.declared.parts.Source.{Source}
use Rattle.json_values.specs.declared.table.Entry.{Entry}
use Rattle.json_values.specs.Meaning.{value_at}
use Rattle.json_reader.specs.declared.fault.Fault.{Fault}
use Rattle.json_round_trip.proofs.Trips.{reads_back}
use Rattle.json_round_trip.specs.Copied.{Copies, Leaves}
use Rattle.json_round_trip.specs.RoundTrip.{Gives}
use Rattle.json_round_trip.specs.declared.copying.CopyError.{CopyError}
use Rattle.json_round_trip.specs.declared.copying.CopyError.TheVariants as error

module _ (source : Source) (v : Value) (stored stored_now : List ℕ) (entries entries_now : List Entry) where
  -- what the answer of reading gives
  given : (a : Result ℕ Fault) → Gives source v (record { answer = a; text = stored_now; table = entries_now }) → (i : ℕ) × (a ≡ Ok i) × ((texts : Source → List ℕ) → texts source ≡ stored_now → value_at texts entries_now i ≡ v)
  given a g = (g.entry, g.answered, g.means)

  pub copies : (r : Result ℕ CopyError) → Leaves source v stored entries r stored_now entries_now → Copies source v stored entries r stored_now entries_now
  copies (Ok i) e limits room =
      let g = given (Ok i) (subst (Gives source v) e (reads_back source v stored entries limits room)) in
      let same : g.0 ≡ i = cc (g.1) in
      λ texts t. ap (value_at texts entries_now) (sym same) ∙ g.2 texts t
  copies (Err (error.Refused f)) e limits room =
      let g = given (Err f) (subst (Gives source v) e (reads_back source v stored entries limits room)) in
      grind (arith, g.1)
  copies (Err error.NoMemory) e limits room = tt
