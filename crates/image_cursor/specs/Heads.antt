-- What a command that was read says.
use Rattle.std.specs.Prelude.{◌≡◌, ℕ}
use Rattle.image.specs.Decode.{Seen, lone, items, members}
use Rattle.image.specs.Decode as decode
use Rattle.image.specs.Typed.{null, bool, int, uint, text, bytes, duration}
use Rattle.image_cursor.specs.declared.head.Head.{Head}
use Rattle.image_cursor.specs.declared.head.Head.TheVariants.{Null, Bool, Int, Uint, Text, Bytes, Duration, List as ListOf, Map}
use Rattle.image_cursor.specs.declared.tail.Tail.{Tail}

-- the command and its operand
abbrev pub meaning : Head → decode.Head
meaning Null = lone null
meaning (Bool b) = lone (bool b)
meaning (Int z) = lone (int z)
meaning (Uint n) = lone (uint n)
meaning (Text p) = lone (text p.text.now)
meaning (Bytes p) = lone (bytes p.text.now)
meaning (Duration z) = lone (duration z)
meaning (ListOf n) = items n
meaning (Map n) = members n

-- how many values stand behind the command until its value is whole
abbrev pub parts_of : Head → ℕ
parts_of h = decode.parts (meaning h)

-- the command with the bytes behind it
abbrev pub seen_by : Head × Tail → Seen
seen_by r = record { head = meaning r.0; rest = r.1.rest.now }

-- a text's bytes begin at `place`
abbrev pub Placed : ℕ → Head → Type 0
Placed place Null = Unit {0}
Placed place (Bool b) = Unit {0}
Placed place (Int z) = Unit {0}
Placed place (Uint n) = Unit {0}
Placed place (Text p) = p.place ≡ place
Placed place (Bytes p) = p.place ≡ place
Placed place (Duration z) = Unit {0}
Placed place (ListOf n) = Unit {0}
Placed place (Map n) = Unit {0}
