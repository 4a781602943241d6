-- What a JSON text is (RFC 8259, RFC 3629): one constructor to a production.
use Rattle.std.specs.Prelude.{◌≡◌, ℕ, suc, ◌+◌, ◌-◌, ◌*◌, ◌%◌, ◌^◌, ◌<◌, Bool, true, false, cond, not, ◌&&◌, ◌||◌, List, [], ◌∷◌, ◌++◌, Some, None, Option, ◌==◌, nat_le, nat_lt}
use Rattle.std.proofs.Math.Utf8.{encode}
use Rattle.std.specs.Char.{is_ascii_digit}

-- a value as it is written: a number by its sign and size, a text by the bytes of its UTF-8 form,
-- the values of a list and the members of an object with the last outermost, and keys as often as they stand
mutual
  pub data Tree : Type 0 where
    null : Tree
    bool : Bool → Tree
    number : Bool → ℕ → Tree
    real : Tree
    text : List ℕ → Tree
    list : Trees → Tree
    object : Members → Tree

  pub data Trees : Type 0 where
    nil : Trees
    snoc : Trees → Tree → Trees

  pub data Members : Type 0 where
    none : Members
    with : Members → List ℕ → Tree → Members

-- an integer that does not fit: below -2^63 or past 2^64 - 1, or -0
abbrev pub unfit : Bool → ℕ → Bool
unfit false n = nat_le (2 ^ 64) n
unfit true n = n == 0 || nat_le 9223372036854775809 n

-- past a limit, in d open lists and objects: a number that does not fit, or a list or an object in 200 others
abbrev mutual
  pub over : ℕ → Tree → Bool
  over d null = false
  over d (bool b) = false
  over d (number minus n) = unfit minus n
  over d real = true
  over d (text cs) = false
  over d (list ts) = nat_le 200 d || overs (suc d) ts
  over d (object ms) = nat_le 200 d || over_members (suc d) ms

  pub overs : ℕ → Trees → Bool
  overs d nil = false
  overs d (snoc ts v) = overs d ts || over d v

  pub over_members : ℕ → Members → Bool
  over_members d none = false
  over_members d (with ms k v) = over_members d ms || over d v

-- the number of values in a value, itself among them; keys are none
abbrev mutual
  pub size : Tree → ℕ
  size null = 1
  size (bool b) = 1
  size (number minus n) = 1
  size real = 1
  size (text cs) = 1
  size (list ts) = suc (sizes ts)
  size (object ms) = suc (member_sizes ms)

  pub sizes : Trees → ℕ
  sizes nil = 0
  sizes (snoc ts v) = sizes ts + size v

  pub member_sizes : Members → ℕ
  member_sizes none = 0
  member_sizes (with ms k v) = member_sizes ms + size v

-- a byte of white space
abbrev pub white : ℕ → Bool
white b = b == 32 || b == 9 || b == 10 || b == 13

-- white space, or none
pub data Blank : List ℕ → Type 0 where
  none : Blank []
  more : {w : List ℕ} (b : ℕ) → Blank w → white b ≡ true → Blank (w ++ b ∷ [])

-- the digits of an integer, with no leading 0
pub data Numeral : ℕ → List ℕ → Type 0 where
  digit : (b : ℕ) → is_ascii_digit b ≡ true → Numeral (b - 48) (b ∷ [])
  more : {n : ℕ} {s : List ℕ} (b : ℕ) → Numeral n s → 0 < n → is_ascii_digit b ≡ true → Numeral (n * 10 + (b - 48)) (s ++ b ∷ [])

-- an integer, with its sign
pub data Whole : Bool → ℕ → List ℕ → Type 0 where
  plus : {n : ℕ} {s : List ℕ} → Numeral n s → Whole false n s
  minus : {n : ℕ} {s : List ℕ} → Numeral n s → Whole true n (45 ∷ s)

-- one digit or more
pub data Digits : List ℕ → Type 0 where
  one : (b : ℕ) → is_ascii_digit b ≡ true → Digits (b ∷ [])
  more : {s : List ℕ} (b : ℕ) → Digits s → is_ascii_digit b ≡ true → Digits (s ++ b ∷ [])

-- e or E
abbrev pub power : ℕ → Bool
power b = b == 101 || b == 69

-- plus or minus
abbrev pub sign : ℕ → Bool
sign b = b == 43 || b == 45

-- an exponent, with its letter and sign
pub data Exponent : List ℕ → Type 0 where
  bare : {f : List ℕ} (e : ℕ) → power e ≡ true → Digits f → Exponent (e ∷ f)
  signed : {f : List ℕ} (e g : ℕ) → power e ≡ true → sign g ≡ true → Digits f → Exponent (e ∷ g ∷ f)

-- a number with a point or an exponent
pub data Real : List ℕ → Type 0 where
  point : {g : Bool} {n : ℕ} {s f : List ℕ} → Whole g n s → Digits f → Real (s ++ 46 ∷ f)
  raised : {g : Bool} {n : ℕ} {s x : List ℕ} → Whole g n s → Exponent x → Real (s ++ x)
  both : {g : Bool} {n : ℕ} {s f x : List ℕ} → Whole g n s → Digits f → Exponent x → Real ((s ++ 46 ∷ f) ++ x)

-- a byte that stands for itself in a string
abbrev pub plain : ℕ → Bool
plain b = nat_le 32 b && (nat_lt b 128 && (not (b == 34) && not (b == 92)))

-- the first byte of a UTF-8 sequence of two bytes
abbrev pub lead2 : ℕ → Bool
lead2 a = nat_le 194 a && nat_le a 223

-- of three bytes
abbrev pub lead3 : ℕ → Bool
lead3 a = nat_le 224 a && nat_le a 239

-- of four bytes
abbrev pub lead4 : ℕ → Bool
lead4 a = nat_le 240 a && nat_le a 244

-- a byte behind the first
abbrev pub tail : ℕ → Bool
tail b = nat_le 128 b && nat_le b 191

-- the second byte of three or four: no overlong form, no surrogate, nothing above U+10FFFF
abbrev pub second : ℕ → ℕ → Bool
second a b =
    cond (a == 224) (nat_le 160 b && nat_le b 191)
    (cond (a == 237) (nat_le 128 b && nat_le b 159)
    (cond (a == 240) (nat_le 144 b && nat_le b 191)
    (cond (a == 244) (nat_le 128 b && nat_le b 143)
    (tail b))))

-- a character that stands for itself
pub data Raw : List ℕ → Type 0 where
  one : (b : ℕ) → plain b ≡ true → Raw (b ∷ [])
  two : (a b : ℕ) → lead2 a ≡ true → tail b ≡ true → Raw (a ∷ b ∷ [])
  three : (a b c : ℕ) → lead3 a ≡ true → second a b ≡ true → tail c ≡ true → Raw (a ∷ b ∷ c ∷ [])
  four : (a b c d : ℕ) → lead4 a ≡ true → second a b ≡ true → tail c ≡ true → tail d ≡ true → Raw (a ∷ b ∷ c ∷ d ∷ [])

-- the character that a backslash and the byte b stand for: quote, backslash, solidus, b, f, n, r, t
abbrev pub simple : ℕ → Option ℕ
simple b =
    cond (b == 34) (Some 34)
    (cond (b == 92) (Some 92)
    (cond (b == 47) (Some 47)
    (cond (b == 98) (Some 8)
    (cond (b == 102) (Some 12)
    (cond (b == 110) (Some 10)
    (cond (b == 114) (Some 13)
    (cond (b == 116) (Some 9)
    None)))))))

-- a hexadecimal digit
abbrev pub hex : ℕ → Bool
hex b = is_ascii_digit b || ((nat_le 65 b && nat_le b 70) || (nat_le 97 b && nat_le b 102))

-- the value of a hexadecimal digit
abbrev pub hexed : ℕ → ℕ
hexed b = cond (nat_le b 57) (b - 48) (cond (nat_le b 70) (b - 55) (b - 87))

-- the UTF-16 code unit of four digits' values
abbrev pub unit : ℕ → ℕ → ℕ → ℕ → ℕ
unit a b c d = ((a * 16 + b) * 16 + c) * 16 + d

-- a high surrogate: from U+D800 to U+DBFF
abbrev pub high : ℕ → Bool
high u = nat_le 55296 u && nat_lt u 56320

-- a low surrogate: from U+DC00 to U+DFFF
abbrev pub low : ℕ → Bool
low u = nat_le 56320 u && nat_lt u 57344

-- a surrogate, which is no character
abbrev pub surrogate : ℕ → Bool
surrogate u = nat_le 55296 u && nat_lt u 57344

-- the character of a pair: ten bits of each above U+10000
abbrev pub pair : ℕ → ℕ → ℕ
pair h l = 65536 + h % 1024 * 1024 + l % 1024

-- a code unit as it is escaped
pub data CodeUnit : ℕ → List ℕ → Type 0 where
  digits : (a b c d : ℕ) → hex a ≡ true → hex b ≡ true → hex c ≡ true → hex d ≡ true
      → CodeUnit (unit (hexed a) (hexed b) (hexed c) (hexed d)) (92 ∷ 117 ∷ a ∷ b ∷ c ∷ d ∷ [])

-- a character of a string: the bytes of its UTF-8 form, and those that are written
pub data Character : List ℕ → List ℕ → Type 0 where
  raw : {w : List ℕ} → Raw w → Character w w
  escape : (b c : ℕ) → simple b ≡ Some c → Character (c ∷ []) (92 ∷ b ∷ [])
  single : {u : ℕ} {w : List ℕ} → CodeUnit u w → surrogate u ≡ false → Character (encode u) w
  twins : {h l : ℕ} {w x : List ℕ} → CodeUnit h w → high h ≡ true → CodeUnit l x → low l ≡ true → Character (encode (pair h l)) (w ++ x)

-- the inside of a string, with its text
pub data Chars : List ℕ → List ℕ → Type 0 where
  none : Chars [] []
  more : {cs s c w : List ℕ} → Chars cs s → Character c w → Chars (cs ++ c) (s ++ w)

-- a name and the colon behind it
pub data Name : List ℕ → List ℕ → Type 0 where
  name : {k a s b : List ℕ} → Blank a → Chars k s → Blank b → Name k (a ++ 34 ∷ s ++ 34 ∷ b ++ 58 ∷ [])

mutual
  -- s is a value, and v what it stands for
  pub data Value : Tree → List ℕ → Type 0 where
    null_word : Value null (110 ∷ 117 ∷ 108 ∷ 108 ∷ [])
    true_word : Value (bool true) (116 ∷ 114 ∷ 117 ∷ 101 ∷ [])
    false_word : Value (bool false) (102 ∷ 97 ∷ 108 ∷ 115 ∷ 101 ∷ [])
    whole : {g : Bool} {n : ℕ} {s : List ℕ} → Whole g n s → Value (number g n) s
    broken : {s : List ℕ} → Real s → Value real s
    string : {cs s : List ℕ} → Chars cs s → Value (text cs) (34 ∷ s ++ 34 ∷ [])
    empty_list : {a : List ℕ} → Blank a → Value (list nil) (91 ∷ a ++ 93 ∷ [])
    full_list : {vs : Trees} {s : List ℕ} → Elements vs s → Value (list vs) (91 ∷ s ++ 93 ∷ [])
    empty_object : {a : List ℕ} → Blank a → Value (object none) (123 ∷ a ++ 125 ∷ [])
    full_object : {ms : Members} {s : List ℕ} → Entries ms s → Value (object ms) (123 ∷ s ++ 125 ∷ [])

  -- the values of a list, with the commas between them
  pub data Elements : Trees → List ℕ → Type 0 where
    one : {v : Tree} {a s b : List ℕ} → Blank a → Value v s → Blank b → Elements (snoc nil v) (a ++ s ++ b)
    more : {vs : Trees} {v : Tree} {w a s b : List ℕ} → Elements vs w → Blank a → Value v s → Blank b → Elements (snoc vs v) (w ++ 44 ∷ a ++ s ++ b)

  -- the members of an object, with the commas between them
  pub data Entries : Members → List ℕ → Type 0 where
    sole : {k : List ℕ} {v : Tree} {n a s b : List ℕ} → Name k n → Blank a → Value v s → Blank b → Entries (with none k v) (n ++ a ++ s ++ b)
    further : {ms : Members} {k : List ℕ} {v : Tree} {w n a s b : List ℕ} → Entries ms w → Name k n → Blank a → Value v s → Blank b → Entries (with ms k v) (w ++ 44 ∷ n ++ a ++ s ++ b)

-- s is a text for the value v
pub data Text : Tree → List ℕ → Type 0 where
  whole : {v : Tree} {a s b : List ℕ} → Blank a → Value v s → Blank b → Text v (a ++ s ++ b)

-- some text begins with u
abbrev pub Viable : List ℕ → Type 0
Viable u = (rest : List ℕ) × (v : Tree) × Text v (u ++ rest)
