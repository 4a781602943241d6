-- What a byte does, in each mode of the scanner.
use Rattle.std.specs.Prelude.{ℕ, ◌+◌, ◌-◌, ◌*◌, ◌^◌, min, Bool, true, false, cond, ◌&&◌, ◌||◌, pos, neg_ℤ, Some, None, Ok, Err, Option, Result, ◌==◌, nat_le, nat_lt}
use Rattle.std.specs.Char.{is_ascii_digit}
use Rattle.std.proofs.Math.Utf8.{scalar}
use Rattle.json_scanner.specs.declared.modes.Container.{Container}
use Rattle.json_scanner.specs.declared.modes.Container.TheVariants as container
use Rattle.json_scanner.specs.declared.modes.Role.{Role}
use Rattle.json_scanner.specs.declared.modes.Role.TheVariants as role
use Rattle.json_scanner.specs.declared.modes.Tail.{Tail}
use Rattle.json_scanner.specs.declared.modes.Tail.TheVariants as tails
use Rattle.json_scanner.specs.declared.modes.Hex.{Hex}
use Rattle.json_scanner.specs.declared.modes.Hex.TheVariants as hexes
use Rattle.json_scanner.specs.declared.modes.Inside.{Inside}
use Rattle.json_scanner.specs.declared.modes.Inside.TheVariants as inside
use Rattle.json_scanner.specs.declared.modes.Piece.{Piece}
use Rattle.json_scanner.specs.declared.modes.Piece.TheVariants as piece
use Rattle.json_scanner.specs.declared.modes.Spelled.{Spelled}
use Rattle.json_scanner.specs.declared.modes.Word.{Word}
use Rattle.json_scanner.specs.declared.modes.Word.TheVariants as word
use Rattle.json_scanner.specs.declared.modes.Figures.{Figures}
use Rattle.json_scanner.specs.declared.modes.Figures.TheVariants as figures
use Rattle.json_scanner.specs.declared.modes.NumberError.{NumberError}
use Rattle.json_scanner.specs.declared.modes.NumberError.TheVariants as number_error
use Rattle.json_scanner.specs.declared.modes.Mode.{Mode}
use Rattle.json_scanner.specs.declared.modes.Mode.TheVariants as mode
use Rattle.json_scanner.specs.declared.modes.Act.{Act}
use Rattle.json_scanner.specs.declared.modes.Act.TheVariants as act
use Rattle.json_scanner.specs.declared.modes.Move.{Move}
use Rattle.json_scanner.specs.declared.modes.Fault.{Fault}
use Rattle.json_scanner.specs.declared.modes.Fault.TheVariants as fault
use Rattle.json_scanner.specs.declared.modes.Number.{Number}
use Rattle.json_scanner.specs.declared.modes.Number.TheVariants as number
use Rattle.json_scanner.specs.declared.modes.Around.{Around}
use Rattle.json_scanner.specs.declared.modes.Ready.{Ready}
use Rattle.json_scanner.specs.Grammar.{white, plain, lead2, lead3, lead4, tail, second, simple, hex, hexed, unit, pair, power, sign, unfit}

-- ---- strings

-- what a byte does in a string, or nothing where no character can go on so
abbrev pub Spelling : Type 0
Spelling = Option Spelled

-- it leads there, and adds this
abbrev pub spells : Inside → Option Piece → Spelling
spells x p = Some (record { at = x; piece = p })

-- the first byte of a character
abbrev pub led : ℕ → Spelling
led b =
    cond (plain b) (spells inside.Plain (Some (piece.Byte b)))
    (cond (lead2 b) (spells (inside.Raw tails.One) (Some (piece.Byte b)))
    (cond (lead3 b) (spells (inside.Raw (tails.SecondOfThree b)) (Some (piece.Byte b)))
    (cond (lead4 b) (spells (inside.Raw (tails.SecondOfFour b)) (Some (piece.Byte b)))
    (cond (b == 92) (spells inside.Escape None)
    None))))

-- a further byte of a UTF-8 sequence
abbrev pub tailed : Tail → ℕ → Spelling
tailed tails.One b = cond (tail b) (spells inside.Plain (Some (piece.Byte b))) None
tailed tails.Two b = cond (tail b) (spells (inside.Raw tails.One) (Some (piece.Byte b))) None
tailed (tails.SecondOfThree a) b = cond (second a b) (spells (inside.Raw tails.One) (Some (piece.Byte b))) None
tailed (tails.SecondOfFour a) b = cond (second a b) (spells (inside.Raw tails.Two) (Some (piece.Byte b))) None

-- where b stands for the character o behind a backslash, or for none
abbrev pub escaped_by : Option ℕ → ℕ → Spelling
escaped_by (Some c) b = spells inside.Plain (Some (piece.Byte c))
escaped_by None b = cond (b == 117) (spells (inside.Unit hexes.Zero) None) None

-- the byte behind a backslash
abbrev pub escaped : ℕ → Spelling
escaped b = escaped_by (simple b) b

-- the value of a hexadecimal digit
abbrev pub digit_of : ℕ → Option ℕ
digit_of b = cond (hex b) (Some (hexed b)) None

-- one more digit, of the value d, of a code unit that is a character or a high surrogate
abbrev pub united : Hex → ℕ → Spelling
united hexes.Zero d = spells (inside.Unit (hexes.One d)) None
united (hexes.One a) d = cond (a == 13 && nat_le 12 d) None (spells (inside.Unit (hexes.Two a d)) None)
united (hexes.Two a b) d = spells (inside.Unit (hexes.Three a b d)) None
united (hexes.Three a b c) d = cond (scalar (unit a b c d)) (spells inside.Plain (Some (piece.Char (unit a b c d)))) (spells (inside.High (unit a b c d)) None)

-- one more digit of the low surrogate behind h
abbrev pub paired : ℕ → Hex → ℕ → Spelling
paired h hexes.Zero d = cond (d == 13) (spells (inside.Low h (hexes.One d)) None) None
paired h (hexes.One a) d = cond (nat_le 12 d) (spells (inside.Low h (hexes.Two a d)) None) None
paired h (hexes.Two a b) d = spells (inside.Low h (hexes.Three a b d)) None
paired h (hexes.Three a b c) d = spells inside.Plain (Some (piece.Char (pair h (unit a b c d))))

-- what the byte b does in a string, but for the quote that ends it
abbrev pub spelled : Inside → ℕ → Spelling
spelled inside.Plain b = led b
spelled (inside.Raw t) b = tailed t b
spelled inside.Escape b = escaped b
spelled (inside.Unit h) b = cond (hex b) (united h (hexed b)) None
spelled (inside.High h) b = cond (b == 92) (spells (inside.HighEscape h) None) None
spelled (inside.HighEscape h) b = cond (b == 117) (spells (inside.Low h hexes.Zero) None) None
spelled (inside.Low h x) b = cond (hex b) (paired h x (hexed b)) None

-- the quote that ends a string
abbrev pub closing : Inside → ℕ → Bool
closing inside.Plain b = b == 34
closing (inside.Raw t) b = false
closing inside.Escape b = false
closing (inside.Unit h) b = false
closing (inside.High h) b = false
closing (inside.HighEscape h) b = false
closing (inside.Low h x) b = false

-- ---- numbers

-- one more digit, of the value d
abbrev pub grown : Bool → ℕ → ℕ → Result Figures NumberError
grown minus n d =
    cond (n == 0) (Err number_error.Broken)
    (cond (unfit minus (n * 10 + d)) (Err number_error.Unfit)
    (Ok (figures.Whole minus (n * 10 + d))))

-- what the byte b does to a number; a number that is known not to fit stays so
abbrev pub figured : Figures → ℕ → Result Figures NumberError
figured figures.Minus b =
    cond (b == 48) (Err number_error.Unfit)
    (cond (is_ascii_digit b) (Ok (figures.Whole true (b - 48)))
    (Err number_error.Broken))
figured (figures.Whole minus n) b =
    cond (b == 46) (Ok figures.Point)
    (cond (power b) (Ok figures.Power)
    (cond (is_ascii_digit b) (grown minus n (b - 48))
    (Err number_error.Broken)))
figured figures.Point b = cond (is_ascii_digit b) (Err number_error.Unfit) (Err number_error.Broken)
figured figures.Power b =
    cond (is_ascii_digit b) (Err number_error.Unfit)
    (cond (sign b) (Ok figures.Sign)
    (Err number_error.Broken))
figured figures.Sign b = cond (is_ascii_digit b) (Err number_error.Unfit) (Err number_error.Broken)

-- a byte with which an integer may go on
abbrev pub figure : ℕ → Bool
figure b = is_ascii_digit b || (b == 46 || power b)

-- the integer of a sign and a size: an int from -2^63 to 2^63 - 1, else a uint
abbrev pub valued : Bool → ℕ → Number
valued false n = cond (nat_lt n (2 ^ 63)) (number.Int (pos n)) (number.Uint n)
valued true n = number.Int (neg_ℤ (pos (min n (2 ^ 63))))

-- ---- a byte

-- the next mode and the act, or a fault
abbrev pub Moved : Type 0
Moved = Result Move Fault

abbrev pub leads : Mode → Act → Move
leads m x = record { mode = m; act = x }

abbrev pub goes : Mode → Act → Moved
goes m x = Ok (leads m x)

-- a list or an object opens
abbrev pub opening : Around → Mode → Container → Moved
opening a m c = cond (nat_le 200 a.depth) (Err (fault.Nested a.place)) (cond (nat_le 4096 a.values) (Err (fault.Crowded a.place)) (goes m (act.Open c)))

-- a literal or a text begins
abbrev pub beginning : Around → Mode → Moved
beginning a m = cond (nat_le 4096 a.values) (Err (fault.Crowded a.place)) (goes m act.Begin)

-- where a value is wanted
abbrev pub begun : Mode → Around → ℕ → Moved
begun stay a b =
    cond (white b) (goes stay act.Stay)
    (cond (b == 91) (opening a mode.First container.List)
    (cond (b == 123) (opening a mode.FirstKey container.Object)
    (cond (b == 45) (goes (mode.Number figures.Minus a.place) act.Stay)
    (cond (is_ascii_digit b) (goes (mode.Number (figures.Whole false (b - 48)) a.place) act.Stay)
    (cond (b == 34) (beginning a (mode.Text role.Value inside.Plain))
    (cond (b == 110) (beginning a (mode.Word word.N))
    (cond (b == 116) (beginning a (mode.Word word.T))
    (cond (b == 102) (beginning a (mode.Word word.F))
    (Err (fault.Malformed a.place))))))))))

-- where a key is wanted, at i
abbrev pub keyed : Mode → ℕ → ℕ → Moved
keyed stay i b =
    cond (white b) (goes stay act.Stay)
    (cond (b == 34) (goes (mode.Text role.Key inside.Plain) act.Stay)
    (Err (fault.Malformed i)))

-- behind a value, at i
abbrev pub followed : Option Container → ℕ → ℕ → Moved
followed None i b = Err (fault.Malformed i)
followed (Some container.List) i b = cond (b == 44) (goes mode.Want act.Stay) (cond (b == 93) (goes mode.After act.Close) (Err (fault.Malformed i)))
followed (Some container.Object) i b = cond (b == 44) (goes mode.NextKey act.Stay) (cond (b == 125) (goes mode.After act.Close) (Err (fault.Malformed i)))

-- the next letter of a literal
abbrev pub letter : Word → ℕ
letter word.N = 117
letter word.Nu = 108
letter word.Nul = 108
letter word.T = 114
letter word.Tr = 117
letter word.Tru = 101
letter word.F = 97
letter word.Fa = 108
letter word.Fal = 115
letter word.Fals = 101

-- what the next letter does
abbrev pub spelling : Word → Move
spelling word.N = leads (mode.Word word.Nu) act.Stay
spelling word.Nu = leads (mode.Word word.Nul) act.Stay
spelling word.Nul = leads mode.After act.Null
spelling word.T = leads (mode.Word word.Tr) act.Stay
spelling word.Tr = leads (mode.Word word.Tru) act.Stay
spelling word.Tru = leads mode.After (act.Bool true)
spelling word.F = leads (mode.Word word.Fa) act.Stay
spelling word.Fa = leads (mode.Word word.Fal) act.Stay
spelling word.Fal = leads (mode.Word word.Fals) act.Stay
spelling word.Fals = leads mode.After (act.Bool false)

-- the fault of a number that breaks off at i, and began at `from`: that it is one value too many comes first
abbrev pub broken_off : ℕ → ℕ → ℕ → Fault
broken_off values from i = cond (nat_le 4096 values) (fault.Crowded from) (fault.Malformed i)

-- why a number that began at `from` is refused
abbrev pub number_fault : NumberError → ℕ → ℕ → ℕ → Fault
number_fault number_error.Unfit values from i = fault.Number from
number_fault number_error.Broken values from i = broken_off values from i

-- a byte of a number that began at `from`
abbrev pub judged : Result Figures NumberError → ℕ → ℕ → ℕ → Moved
judged (Ok f) values from i = goes (mode.Number f from) act.Stay
judged (Err e) values from i = Err (number_fault e values from i)

-- the act that adds to a text
abbrev pub act_of : Option Piece → Act
act_of None = act.Stay
act_of (Some p) = act.Add p

-- a byte of a string, at i
abbrev pub noted : Role → Spelling → ℕ → Moved
noted r (Some x) i = goes (mode.Text r x.at) (act_of x.piece)
noted r None i = Err (fault.Malformed i)

-- the end of a string
abbrev pub quoted : Role → Move
quoted role.Key = leads mode.Colon act.Key
quoted role.Value = leads mode.After act.Text

-- what the byte b does
abbrev pub moved : Mode → Around → ℕ → Moved
moved mode.Want a b = begun mode.Want a b
moved mode.First a b = cond (b == 93) (goes mode.After act.Close) (begun mode.First a b)
moved mode.FirstKey a b = cond (b == 125) (goes mode.After act.Close) (keyed mode.FirstKey a.place b)
moved mode.NextKey a b = keyed mode.NextKey a.place b
moved mode.Colon a b = cond (white b) (goes mode.Colon act.Stay) (cond (b == 58) (goes mode.Want act.Stay) (Err (fault.Malformed a.place)))
moved mode.After a b = cond (white b) (goes mode.After act.Stay) (followed a.inner a.place b)
moved (mode.Word w) a b = cond (b == letter w) (Ok (spelling w)) (Err (fault.Malformed a.place))
moved (mode.Number f from) a b = judged (figured f b) a.values from a.place
moved (mode.Text r x) a b = cond (closing x b) (Ok (quoted r)) (noted r (spelled x b) a.place)

-- ---- the end of a number

-- no number ends
abbrev pub still : Mode → ℕ → Ready
still m values = record { mode = m; values = values; number = None }

-- an integer that ends, and counts
abbrev pub counted_in : Bool → ℕ → ℕ → ℕ → Result Ready Fault
counted_in minus n from values =
    cond (nat_le 4096 values) (Err (fault.Crowded from))
    (Ok (record { mode = mode.After; values = values + 1; number = Some (record { minus = minus; size = n; place = from }) }))

-- only an integer ends so
abbrev pub settled_figures : Figures → ℕ → ℕ → Result Ready Fault
settled_figures figures.Minus from values = Ok (still (mode.Number figures.Minus from) values)
settled_figures (figures.Whole minus n) from values = counted_in minus n from values
settled_figures figures.Point from values = Ok (still (mode.Number figures.Point from) values)
settled_figures figures.Power from values = Ok (still (mode.Number figures.Power from) values)
settled_figures figures.Sign from values = Ok (still (mode.Number figures.Sign from) values)

-- the end of an integer, if there is one: where no digit, point or exponent follows
abbrev pub settled : Mode → ℕ → Result Ready Fault
settled mode.Want values = Ok (still mode.Want values)
settled mode.First values = Ok (still mode.First values)
settled mode.FirstKey values = Ok (still mode.FirstKey values)
settled mode.NextKey values = Ok (still mode.NextKey values)
settled mode.Colon values = Ok (still mode.Colon values)
settled mode.After values = Ok (still mode.After values)
settled (mode.Word w) values = Ok (still (mode.Word w) values)
settled (mode.Number f from) values = settled_figures f from values
settled (mode.Text r x) values = Ok (still (mode.Text r x) values)

-- before the byte b
abbrev pub readied : ℕ → Mode → ℕ → Result Ready Fault
readied b m values = cond (figure b) (Ok (still m values)) (settled m values)

-- what follows where there is no fault
abbrev pub then : {X Y : Type 0} → Result X Fault → (X → Result Y Fault) → Result Y Fault
then (Ok x) k = k x
then (Err f) k = Err f
