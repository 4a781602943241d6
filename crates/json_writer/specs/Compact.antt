-- A JSON value as compact text: members in order, no spaces, shortest escapes.
use Rattle.std.specs.Prelude.{ℕ, zero, suc, Bool, true, false, cond, List, [], ◌∷◌, ◌++◌, codes, decimal, ◌==◌, nat_lt, Option, Some, None}
use Rattle.std.specs.List.{flat_map}
use Rattle.std.specs.Fmt.{signed_decimal}
use Rattle.hex.specs.Hex.{encode_lower}
use Rattle.json_values.specs.Value.{Value, Items, Members, null, bool, int, uint, text, list, map, no_item, item, no_member, member}

-- a control character that has no short escape: its number in hexadecimal digits
abbrev pub unit_escape : ℕ → List ℕ
unit_escape b = codes "\\u00" ++ encode_lower (b ∷ [])

-- the letter of a control character's short escape
abbrev pub short_letter : ℕ → Option ℕ
short_letter b = cond (b == 8) (Some 98) (cond (b == 9) (Some 116) (cond (b == 10) (Some 110) (cond (b == 12) (Some 102) (cond (b == 13) (Some 114) None))))

abbrev pub control_escape : ℕ → Option ℕ → List ℕ
control_escape b (Some letter) = 92 ∷ letter ∷ []
control_escape b None = unit_escape b

-- a byte of a text, as a string writes it
abbrev pub escaped : ℕ → List ℕ
escaped b =
    cond (nat_lt b 32) (control_escape b (short_letter b))
    (cond (b == 34) (92 ∷ 34 ∷ []) (cond (b == 92) (92 ∷ 92 ∷ []) (b ∷ [])))

-- a text between its quotes
unfoldable pub quoted : List ℕ → List ℕ
quoted s = 34 ∷ (flat_map escaped s ++ 34 ∷ [])

-- a key before its value
abbrev pub named : List ℕ → List ℕ
named k = quoted k ++ 58 ∷ []

-- the comma before all but the first of a run
abbrev pub comma_at : ℕ → List ℕ
comma_at zero = []
comma_at (suc i) = 44 ∷ []

abbrev pub literal : Bool → List ℕ
literal true = codes "true"
literal false = codes "false"

unfoldable mutual
  pub compact : Value → List ℕ
  compact null = codes "null"
  compact (bool b) = literal b
  compact (int z) = signed_decimal z
  compact (uint n) = decimal n
  compact (text s) = quoted s
  compact (list vs) = 91 ∷ (items_text vs ++ 93 ∷ [])
  compact (map ms) = 123 ∷ (members_text ms ++ 125 ∷ [])

  -- items with commas between them
  pub items_text : Items → List ℕ
  items_text no_item = []
  items_text (item v vs) = compact v ++ more_items vs

  pub more_items : Items → List ℕ
  more_items no_item = []
  more_items (item v vs) = 44 ∷ (compact v ++ more_items vs)

  -- members with commas between them
  pub members_text : Members → List ℕ
  members_text no_member = []
  members_text (member k v ms) = named k ++ (compact v ++ more_members ms)

  pub more_members : Members → List ℕ
  more_members no_member = []
  more_members (member k v ms) = 44 ∷ (named k ++ (compact v ++ more_members ms))
