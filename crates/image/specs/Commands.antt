-- The bytes of the commands.
use Rattle.std.specs.Prelude.{◌≡◌, ℕ, cond, List, [], ◌∷◌, Some, None, Option, Result, ◌==◌}
use Rattle.std.specs.Option.{ok_or}
use Rattle.image.specs.declared.command.Command.{Command}
use Rattle.image.specs.declared.command.UnknownCommand.{UnknownCommand}
use Rattle.image.specs.declared.command.Command.TheVariants.{Null, False, True, Int, Uint, Empty, Text, Bytes, Duration, List as ListOf, Map, Present, Own, Old}

-- the byte of a command
abbrev pub code : Command → ℕ
code Null = 0x00
code False = 0x01
code True = 0x02
code Int = 0x03
code Uint = 0x04
code Empty = 0x05
code Text = 0x06
code Bytes = 0x07
code Duration = 0x09
code ListOf = 0x0A
code Map = 0x0B
code Present = 0x0D
code Own = 0x10
code Old = 0x11

-- all commands
abbrev pub commands : List Command
commands = Null ∷ False ∷ True ∷ Int ∷ Uint ∷ Empty ∷ Text ∷ Bytes ∷ Duration ∷ ListOf ∷ Map ∷ Present ∷ Own ∷ Old ∷ []

-- the first of these commands whose byte is b
abbrev pub coded : ℕ → List Command → Option Command
coded b [] = None
coded b (c ∷ cs) = cond (code c == b) (Some c) (coded b cs)

-- the command that a byte stands for
abbrev pub command : ℕ → Option Command
command b = coded b commands

-- the result is the command that the byte stands for, or says that there is none
abbrev pub StandsFor : ℕ → Result Command UnknownCommand → Type 0
StandsFor byte r = r ≡ ok_or (command byte) (record { 0 = byte })
