-- What stands at the front of bytes, with the bytes behind it.
use Rattle.std.specs.Prelude.{ℕ, ◌-◌, cond, ◌&&◌, List, [], ◌∷◌, length, take, drop, Some, None, Option, nat_le}
use Rattle.image.specs.Commands.{command}
use Rattle.image.specs.Decode.{number4, number8}
use Rattle.image.specs.declared.command.Command.{Command}
use Rattle.std.specs.Option.{option_map}

-- the command that the first byte stands for
abbrev pub front_command : List ℕ → Option (Command × List ℕ)
front_command [] = None
front_command (b ∷ s) = option_map (λ c. (c, s)) (command b)

-- the number in the first four bytes, if they are there
abbrev pub front4 : List ℕ → Option (ℕ × List ℕ)
front4 s = cond (nat_le 4 (length s)) (Some (number4 s, drop 4 s)) None

-- the number in the first eight bytes
abbrev pub front8 : List ℕ → Option (ℕ × List ℕ)
front8 s = cond (nat_le 8 (length s)) (Some (number8 s, drop 8 s)) None

-- a length in four bytes, and so many bytes
abbrev pub front_part : List ℕ → Option (List ℕ × List ℕ)
front_part s = cond (nat_le 4 (length s) && nat_le (number4 s) (length s - 4)) (Some (take (number4 s) (drop 4 s), drop (number4 s) (drop 4 s))) None
