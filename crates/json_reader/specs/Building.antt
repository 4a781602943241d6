-- What each act of the scanner does to what is built.
use Rattle.std.specs.Prelude.{ℕ, ◌+◌, ◌-◌, ◌^◌, Bool, true, false, cond, List, [], ◌∷◌, length, take, drop, pos, neg_ℤ, Some, None, Ok, Option, Result, nat_le, nat_lt}
use Rattle.fixed.specs.Listed.{last}
use Rattle.fixed.specs.Room.{extended}
use Rattle.json_values.specs.Meaning.{no_entry}
use Rattle.json_values.specs.declared.parts.Part.{Part}
use Rattle.json_values.specs.declared.parts.Source.{Source}
use Rattle.json_values.specs.declared.table.Cell.{Cell}
use Rattle.json_values.specs.declared.table.Cell.TheVariants as cell
use Rattle.json_values.specs.declared.table.Entry.{Entry}
use Rattle.json_values.specs.declared.table.Span.{Span}
use Rattle.json_scanner.specs.Bytes.{then}
use Rattle.json_scanner.specs.Machine.{Control, turned, finish, bytes_of}
use Rattle.json_scanner.specs.declared.modes.Act.{Act}
use Rattle.json_scanner.specs.declared.modes.Act.TheVariants as act
use Rattle.json_scanner.specs.declared.modes.Container.{Container}
use Rattle.json_scanner.specs.declared.modes.Container.TheVariants as container
use Rattle.json_scanner.specs.declared.modes.Fault.{Fault}
use Rattle.json_scanner.specs.declared.modes.Numeral.{Numeral}
use Rattle.json_scanner.specs.declared.modes.Step.{Step}
use Rattle.json_reader.specs.declared.builder.Open.{Open}
use Rattle.json_reader.specs.Notes.{Notes}
use Rattle.json_reader.specs.Sifted.{added, picked, sifted}

-- the part of what has no key
abbrev pub no_key : Part
no_key = no_entry.key

-- before the first byte, where the store holds `begun` bytes of text
abbrev pub blank : ℕ → Notes
blank begun = record { pending = []; opens = []; key = no_key; begun = begun; place = 0 }

-- a value is put behind those that wait for their container, with the key that was read for it
abbrev pub valued : Cell → ℕ → Notes → Notes
valued x place n = record n { pending = extended 4096 n.pending (record { key = n.key; place = place; cell = x } ∷ []); key = no_key }

abbrev pub number_cell : Bool → ℕ → Cell
number_cell true n = cond (nat_le n (2 ^ 63)) (cell.Int (neg_ℤ (pos n))) (cell.Uint n)
number_cell false n = cond (nat_lt n (2 ^ 63)) (cell.Int (pos n)) (cell.Uint n)

-- the number that ended, if one did
abbrev pub numbered : Option Numeral → Notes → Notes
numbered None n = n
numbered (Some k) n = valued (number_cell k.minus k.size) k.place n

-- a literal or a text begins at `place`
abbrev pub beginning_at : ℕ → Notes → Notes
beginning_at place n = record n { place = place }

-- a container opens at `place`
abbrev pub opened : Container → ℕ → Notes → Notes
opened c place n = record n { opens = extended 200 n.opens (record { container = c; first = length n.pending; key = n.key; place = place } ∷ []); key = no_key }

-- the text from where the last one ended, to the end of the store's
abbrev pub cut : Source → ℕ → Notes → Part
cut source end n = record { source = source; start = n.begun; len = end - n.begun }

-- a key or a text ends
abbrev pub named : Source → ℕ → Notes → Notes
named source end n = record n { key = cut source end n; begun = end }

abbrev pub texted : Source → ℕ → Notes → Notes
texted source end n = valued (cell.Text (cut source end n)) n.place (record n { begun = end })

-- the table with the children of a container behind, which wait from `first` on
abbrev pub moved_in : Container → List ℕ → List Entry → ℕ → List Entry → List Entry
moved_in container.List text pending first table = extended 8192 table (drop first pending)
moved_in container.Object text pending first table = added 8192 table (picked pending (sifted text pending first))

abbrev pub container_cell : Container → Span → Cell
container_cell container.List sp = cell.List sp
container_cell container.Object sp = cell.Map sp

-- a container waits in place of its children
abbrev pub wrapped_up : Open → Span → Notes → Notes
wrapped_up o sp n = valued (container_cell o.container sp) o.place (record n { pending = take o.first n.pending; key = o.key })

-- what is built: the notes, the store's text and the table
pub record Built : Type 0 where
  pub notes : Notes
  pub text : List ℕ
  pub table : List Entry

-- a container closes, whose children are now behind the table
abbrev pub closed_over : Open → List Entry → Built → Built
closed_over o table m =
    record {
      notes = wrapped_up o (record { first = length m.table; count = length table - length m.table }) (record m.notes { opens = take (length m.notes.opens - 1) m.notes.opens });
      text = m.text;
      table = table;
    }

-- the innermost container closes, if one is open
abbrev pub closed_in : Option Open → Built → Built
closed_in None m = m
closed_in (Some o) m = closed_over o (moved_in o.container m.text m.notes.pending o.first m.table) m

-- what an act at the byte i does
abbrev pub acted : Source → ℕ → Act → Built → Built
acted source i act.Stay m = m
acted source i act.Begin m = record m { notes = beginning_at i m.notes }
acted source i (act.Open c) m = record m { notes = opened c i m.notes }
acted source i act.Close m = closed_in (last m.notes.opens) m
acted source i (act.Add p) m = record m { text = extended 65535 m.text (bytes_of p) }
acted source i act.Key m = record m { notes = named source (length m.text) m.notes }
acted source i act.Text m = record m { notes = texted source (length m.text) m.notes }
acted source i act.Null m = record m { notes = valued cell.Null m.notes.place m.notes }
acted source i (act.Bool b) m = record m { notes = valued (cell.Bool b) m.notes.place m.notes }

-- with the number that ended
abbrev pub ended_with : Built → Option Numeral → Built
ended_with m k = record m { notes = numbered k m.notes }

-- what a step of the scanner does, at the byte i
abbrev pub built : Source → ℕ → Step → Built → Built
built source i s m = acted source i s.act (ended_with m s.number)

-- the rest of a text, whose first byte is the one at i
unfoldable pub building : Source → Control → ℕ → List ℕ → Built → Result Built Fault
building source c i [] m = then (finish i c) (λ k. Ok (ended_with m k))
building source c i (b ∷ s) m = then (turned i c b) (λ x. building source x.0 (i + 1) s (built source i x.1 m))
