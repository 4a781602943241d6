-- What a copy by way of the compact text leaves.
use Rattle.std.specs.Prelude.{◌≡◌, ℕ, true, List, Ok, Err, Result}
use Rattle.json_values.specs.Meaning.{value_at}
use Rattle.json_values.specs.Value.{Value}
use Rattle.json_values.specs.declared.parts.Source.{Source}
use Rattle.json_values.specs.declared.table.Entry.{Entry}
use Rattle.json_reader.specs.Reading.{outcome, reading, roomy}
use Rattle.json_reader.specs.declared.fault.Fault.{Fault}
use Rattle.json_round_trip.specs.RoundTrip.{InLimits}
use Rattle.json_round_trip.specs.declared.copying.CopyError.{CopyError}
use Rattle.json_round_trip.specs.declared.copying.CopyError.TheVariants as error
use Rattle.json_writer.specs.Compact.{compact}

abbrev pub no_memory : CopyError
no_memory = error.NoMemory

abbrev pub refused : Fault → CopyError
refused f = error.Refused f

-- the answer and what is left are those of reading the compact text; without memory for it all is as it was
abbrev pub Leaves : Source → Value → List ℕ → List Entry → Result ℕ CopyError → List ℕ → List Entry → Type 0
Leaves source v stored entries (Ok i) stored_now entries_now =
    outcome source stored entries (reading source (compact v) stored entries) ≡ record { answer = Ok i; text = stored_now; table = entries_now }
Leaves source v stored entries (Err (error.Refused f)) stored_now entries_now =
    outcome source stored entries (reading source (compact v) stored entries) ≡ record { answer = Err f; text = stored_now; table = entries_now }
Leaves source v stored entries (Err error.NoMemory) stored_now entries_now = (stored_now ≡ stored) × (entries_now ≡ entries)

-- the entry means the value that was copied, and only want of memory prevents it
abbrev pub Means : Source → Value → Result ℕ CopyError → List ℕ → List Entry → Type 0
Means source v (Ok i) stored entries = (texts : Source → List ℕ) → texts source ≡ stored → value_at texts entries i ≡ v
Means source v (Err (error.Refused f)) stored entries = ⊥
Means source v (Err error.NoMemory) stored entries = Unit {0}

-- so it is with each value that a text can be read as, where there is room
abbrev pub Copies : Source → Value → List ℕ → List Entry → Result ℕ CopyError → List ℕ → List Entry → Type 0
Copies source v stored entries r stored_now entries_now = InLimits v → roomy (compact v) stored entries ≡ true → Means source v r stored_now entries_now
