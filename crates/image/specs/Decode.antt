-- What bytes mean as an image: the inverse of `image`.
use Rattle.std.specs.Prelude.{ℕ, zero, suc, ◌+◌, ◌-◌, ◌*◌, Bool, true, false, cond, ◌&&◌, List, [], ◌∷◌, length, take, drop, Some, None, Option, ◌==◌, nat_le, nat_lt, slice_index}
use Rattle.std.specs.Int.{w64}
use Rattle.std.proofs.Common.{to_z}
use Rattle.image.specs.Commands.{command}
use Rattle.image.specs.Typed.{Scalar, null, bool, int, uint, text, bytes, duration, Typed, Items, Members, scalar, list, map, no_items, item, no_members, member, items_count, members_count, OldSelf, absent, plain, empty, some, Scope}
use Rattle.image.specs.declared.command.Command.{Command}
use Rattle.image.specs.declared.command.Command.TheVariants.{Null, False, True, Int, Uint, Empty, Text, Bytes, Duration, List as ListOf, Map, Present, Own, Old}
use Rattle.order.specs.Bytes.{compare_bytes}
use Rattle.std.specs.Option.{option_map}
use Rattle.std.specs.Ordering.{is_lt}

-- the answer that goes on from an answer, if there is one
abbrev pub then : {A B : Type 0} → Option A → (A → Option B) → Option B
then None f = None
then (Some x) f = f x

-- ---- one command

-- what a command says with its operand: a scalar, or how many values or members are to come
pub data Head : Type 0 where
  lone : Scalar → Head
  items : ℕ → Head
  members : ℕ → Head

-- a command with its operand, and the bytes behind it
pub record Seen : Type 0 where
  pub head : Head
  pub rest : List ℕ

-- the number that the first four bytes spell, the highest first
abbrev pub number4 : List ℕ → ℕ
number4 s = slice_index s 0 * 16777216 + slice_index s 1 * 65536 + slice_index s 2 * 256 + slice_index s 3

-- the number that the first eight bytes spell
abbrev pub number8 : List ℕ → ℕ
number8 s = slice_index s 0 * 72057594037927936 + slice_index s 1 * 281474976710656 + slice_index s 2 * 1099511627776 + slice_index s 3 * 4294967296 + slice_index s 4 * 16777216 + slice_index s 5 * 65536 + slice_index s 6 * 256 + slice_index s 7

-- an operand of four bytes, if they are there
abbrev pub four : (ℕ → Head) → List ℕ → Option Seen
four f s = cond (nat_le 4 (length s)) (Some (record { head = f (number4 s); rest = drop 4 s })) None

-- an operand of eight bytes
abbrev pub eight : (ℕ → Scalar) → List ℕ → Option Seen
eight f s = cond (nat_le 8 (length s)) (Some (record { head = lone (f (number8 s)); rest = drop 8 s })) None

-- a length in four bytes, and so many bytes
abbrev pub part : (List ℕ → Scalar) → List ℕ → Option Seen
part f s = cond (nat_le 4 (length s) && nat_le (number4 s) (length s - 4)) (Some (record { head = lone (f (take (number4 s) (drop 4 s))); rest = drop (number4 s) (drop 4 s) })) None

-- the operand that belongs to a command; only the commands of values have one
abbrev pub operand : Option Command → List ℕ → Option Seen
operand None s = None
operand (Some Null) s = Some (record { head = lone null; rest = s })
operand (Some False) s = Some (record { head = lone (bool false); rest = s })
operand (Some True) s = Some (record { head = lone (bool true); rest = s })
operand (Some Int) s = eight (λ n. int (to_z w64 n)) s
operand (Some Uint) s = eight uint s
operand (Some Empty) s = None
operand (Some Text) s = part text s
operand (Some Bytes) s = part bytes s
operand (Some Duration) s = eight (λ n. duration (to_z w64 n)) s
operand (Some ListOf) s = four items s
operand (Some Map) s = four members s
operand (Some Present) s = None
operand (Some Own) s = None
operand (Some Old) s = None

-- the command of a value at the front of the bytes, with its operand
unfoldable pub seen : List ℕ → Option Seen
seen [] = None
seen (b ∷ s) = operand (command b) s

-- ---- whole values

-- how many values stand behind a command until its value is whole; a key counts as a value
abbrev pub parts : Head → ℕ
parts (lone s) = 0
parts (items n) = n
parts (members n) = 2 * n

-- the command that a value's image begins with
abbrev pub head_of : Typed → Head
head_of (scalar s) = lone s
head_of (list vs) = items (items_count vs)
head_of (map ms) = members (members_count ms)

-- the first n items, and those behind them
unfoldable pub first : ℕ → Items → Items
first zero vs = no_items
first (suc n) no_items = no_items
first (suc n) (item v vs) = item v (first n vs)

-- the items behind the first n
unfoldable pub later : ℕ → Items → Items
later zero vs = vs
later (suc n) no_items = no_items
later (suc n) (item v vs) = later n vs

-- whether `key` is above the key before it, if there is one
abbrev pub above : Option (List ℕ) → List ℕ → Bool
above None key = true
above (Some before) key = is_lt (compare_bytes before key)

-- the bytes of a text
abbrev pub scalar_text : Scalar → Option (List ℕ)
scalar_text null = None
scalar_text (bool b) = None
scalar_text (int z) = None
scalar_text (uint n) = None
scalar_text (text s) = Some s
scalar_text (bytes s) = None
scalar_text (duration z) = None

-- the bytes of a value that is a text
abbrev pub text_of : Typed → Option (List ℕ)
text_of (scalar s) = scalar_text s
text_of (list vs) = None
text_of (map ms) = None

-- items as members, by turns a key and a value; none where a key is no text or not above the one before
unfoldable mutual
  pub paired : Option (List ℕ) → Items → Option Members
  paired before no_items = Some no_members
  paired before (item v vs) = paired_value before (text_of v) vs

  pub paired_value : Option (List ℕ) → Option (List ℕ) → Items → Option Members
  paired_value before key no_items = None
  paired_value before None (item v vs) = None
  paired_value before (Some key) (item v vs) = cond (above before key) (option_map (member key v) (paired (Some key) vs)) None

-- a command with the values behind it: its own become its content
abbrev pub gathered : Head → Items → Option Items
gathered (lone s) vs = Some (item (scalar s) vs)
gathered (items n) vs = Some (item (list (first n vs)) (later n vs))
gathered (members n) vs = option_map (λ ms. item (map ms) (later (2 * n) vs)) (paired None (first (2 * n) vs))

-- values one after another, and the bytes behind them
pub record Run : Type 0 where
  pub values : Items
  pub rest : List ℕ

-- a run of these values before these bytes
abbrev pub running : List ℕ → Items → Run
running s vs = record { values = vs; rest = s }

-- k values at the front of the bytes; `turns` bounds how many commands are read, and each takes a byte
unfoldable pub run : ℕ → ℕ → List ℕ → Option Run
run zero turns s = Some (running s no_items)
run (suc k) zero s = None
run (suc k) (suc turns) s = then (seen s) (λ c. then (run (parts c.head + k) turns c.rest) (λ r. option_map (running r.rest) (gathered c.head r.values)))

-- a value and the bytes behind it
pub record Decoded : Type 0 where
  pub value : Typed
  pub rest : List ℕ

-- the first value of a run
abbrev pub only : List ℕ → Items → Option Decoded
only s no_items = None
only s (item v vs) = Some (record { value = v; rest = s })

-- the value at the front of the bytes
unfoldable pub decoded : List ℕ → Option Decoded
decoded s = then (run 1 (length s) s) (λ r. only r.rest r.values)

-- ---- scopes

-- an answer, where no byte is left over
abbrev pub ended : {A : Type 0} → List ℕ → A → Option A
ended [] x = Some x
ended (b ∷ s) x = None

-- the value that the bytes are, with none left over
abbrev pub whole : List ℕ → Option Typed
whole s = then (decoded s) (λ d. ended d.rest d.value)

-- oldSelf behind its command
abbrev pub decoded_optional : List ℕ → Option OldSelf
decoded_optional [] = None
decoded_optional (b ∷ s) = cond (b == 0x05) (ended s empty) (cond (b == 0x0D) (option_map some (whole s)) (option_map plain (whole (b ∷ s))))

-- what stands behind self
abbrev pub decoded_old : List ℕ → Option OldSelf
decoded_old [] = Some absent
decoded_old (b ∷ s) = cond (b == 0x11) (decoded_optional s) None

-- a scope of self and oldSelf
abbrev pub scope : Typed → OldSelf → Scope
scope v o = record { self = v; old = o }

-- whether every byte is below 256
abbrev pub octets : List ℕ → Bool
octets [] = true
octets (b ∷ s) = nat_lt b 256 && octets s

-- the scope that bytes below 256 are
abbrev pub scope_of : List ℕ → Option Scope
scope_of [] = None
scope_of (b ∷ s) = cond (b == 0x10) (then (decoded s) (λ d. option_map (scope d.value) (decoded_old d.rest))) None

-- the scope that the bytes are, if they are one
unfoldable pub decoded_scope : List ℕ → Option Scope
decoded_scope s = cond (octets s) (scope_of s) None
