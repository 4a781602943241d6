-- Going over values by a count of those to come, with no stack.
use Rattle.std.specs.Prelude.{ℕ, zero, suc, ◌+◌, ◌-◌, Bool, true, cond, List, length, Some, None, Option}
use Rattle.image.specs.Decode.{Head, Seen, items, lone, members, parts, scalar_text, seen, then}
use Rattle.order.specs.Bytes.{compare_bytes}
use Rattle.std.specs.Ordering.{is_eq}

-- the bytes behind k values, each of whose commands passes the test; `turns` bounds the commands that are read, and each takes a byte
unfoldable pub walk : (Head → List ℕ → Bool) → ℕ → ℕ → List ℕ → Option (List ℕ)
walk ok zero turns s = Some s
walk ok (suc k) zero s = None
walk ok (suc k) (suc turns) s = then (seen s) (λ c. cond (ok c.head c.rest) (walk ok (parts c.head + k) turns c.rest) None)

-- the same with as many turns as there are bytes, which is enough
unfoldable pub past : (Head → List ℕ → Bool) → ℕ → List ℕ → Option (List ℕ)
past ok k s = walk ok k (length s) s

-- any command passes
abbrev pub any : Head → List ℕ → Bool
any h s = true

-- the bytes behind the value at the front
abbrev pub skipped : List ℕ → Option (List ℕ)
skipped s = past any 1 s

-- the bytes of a text's command
abbrev pub head_text : Head → Option (List ℕ)
head_text (lone s) = scalar_text s
head_text (items n) = None
head_text (members n) = None

-- a key at the front, and the bytes behind it
pub record Keyed : Type 0 where
  pub key : List ℕ
  pub rest : List ℕ

-- the key at the front, if a text's command stands there
abbrev pub key_seen : List ℕ → Option Keyed
key_seen s = then (seen s) (λ c. then (head_text c.head) (λ k. Some (record { key = k; rest = c.rest })))

-- the bytes from the value on whose key is `key`, among n members
unfoldable pub looked_up : ℕ → List ℕ → List ℕ → Option (List ℕ)
looked_up zero key s = None
looked_up (suc n) key s = then (key_seen s) (λ k. cond (is_eq (compare_bytes k.key key)) (Some k.rest) (then (skipped k.rest) (looked_up n key)))

-- the same behind a command, if it is a map's
abbrev pub looked_in : List ℕ → Seen → Option (List ℕ)
looked_in key c = in_head c.head c.rest where
  in_head : Head → List ℕ → Option (List ℕ)
  in_head (lone x) s = None
  in_head (items n) s = None
  in_head (members n) s = looked_up n key s

-- the same in the map at the front of the bytes
abbrev pub sought : List ℕ → List ℕ → Option (List ℕ)
sought key s = then (seen s) (looked_in key)

-- the position that leaves `rest` of the bytes; the same as before where there is no answer
abbrev pub left_off : List ℕ → ℕ → Option (List ℕ) → ℕ
left_off s at None = at
left_off s at (Some rest) = length s - length rest
