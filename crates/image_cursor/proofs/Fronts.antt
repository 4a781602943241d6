-- What stands at the front of bytes.
use Rattle.std.proofs.Common.{◌≡◌, ℕ, List, [], ◌∷◌, Some, None, Option, refl}
use Rattle.image.specs.Commands.{command}
use Rattle.image.specs.Decode.{operand, seen, then}
use Rattle.image.specs.declared.command.Command.{Command}
use Rattle.image_cursor.specs.Operands.{front_command}
use Rattle.std.specs.Option.{option_map}

by_command : (o : Option Command) (s : List ℕ) → operand o s ≡ then {A = Command × List ℕ} (option_map (λ c. (c, s)) o) (λ r. operand (Some r.0) r.1)
by_command None s = refl
by_command (Some c) s = refl

-- a command's byte, and then its operand
pub seen_front : (s : List ℕ) → seen s ≡ then (front_command s) (λ r. operand (Some r.0) r.1)
unfolding seen
seen_front [] = refl
seen_front (b ∷ s) = by_command (command b) s
