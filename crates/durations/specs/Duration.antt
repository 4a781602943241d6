-- How many nanoseconds a text means as a duration, if it is one.
use Rattle.std.specs.Prelude.{ℕ, zero, suc, ◌+◌, ◌-◌, ◌*◌, ◌/◌, ◌^◌, Bool, true, false, cond, ◌&&◌, List, [], ◌∷◌, length, drop, ℤ, pos, neg_ℤ, Some, None, codes, Option, ◌==◌, nat_lt}
use Rattle.std.specs.Borrow.{Bor}
use Rattle.std.specs.Option.{option_map}
use Rattle.std.specs.Char.{is_ascii_digit}
use Rattle.durations.specs.declared.duration.Figures.{Figures}
use Rattle.durations.specs.declared.duration.Numeral.{Numeral}
use Rattle.durations.specs.declared.duration.Sign.{Sign}
use Rattle.durations.specs.declared.duration.Sign.TheVariants.{Plus, Minus}
use Rattle.durations.specs.declared.duration.Unit.{Unit as TimeUnit}
use Rattle.durations.specs.declared.duration.Unit.TheVariants.{Hour, Minute, Second, Millisecond, Microsecond, Nanosecond}

-- what f answers to the value in o, if there is one
abbrev pub then : {A B : Type 0} → Option A → (A → Option B) → Option B
then None f = None
then (Some x) f = f x

-- what a reader has read, with what its reference to the text behind it points to
abbrev pub seen : {A : Type 0} → Option (A × Bor (List ℕ)) → Option (A × List ℕ)
seen r = option_map (λ p. (p.0, p.1.now)) r

-- no digit yet
abbrev pub no_figures : Figures
no_figures = record { value = 0; count = 0 }

-- one more digit, the byte b
abbrev pub longer : Figures → ℕ → Figures
longer f b = record { value = f.value * 10 + (b - 48); count = f.count + 1 }

-- the digits f and then those at the front of s, and what follows them; nothing past 15 digits
abbrev pub leading_figures : Figures → List ℕ → Option (Figures × List ℕ)
leading_figures f [] = Some (f, [])
leading_figures f (b ∷ s) = cond (is_ascii_digit b) (cond (nat_lt f.count 15) (leading_figures (longer f b) s) None) (Some (f, b ∷ s))

-- the digits f and then those behind a point, if a point stands at the front of s
abbrev pub fraction : Figures → List ℕ → Option (Figures × List ℕ)
fraction f [] = Some (f, [])
fraction f (b ∷ s) = cond (b == 46) (leading_figures f s) (Some (f, b ∷ s))

-- all the digits, and how many of them stand behind the point; nothing if there is no digit
abbrev pub numbered : Figures → Figures → Option Numeral
numbered whole all = cond (all.count == 0) None (Some (record { digits = all.value; decimals = all.count - whole.count }))

-- the number at the front of s, and what follows it
abbrev pub leading_numeral : List ℕ → Option (Numeral × List ℕ)
leading_numeral s = then (leading_figures no_figures s) (λ w. then (fraction w.0 w.1) (λ p. option_map (λ n. (n, p.1)) (numbered w.0 p.0)))

-- s begins with the bytes p
abbrev pub begins : List ℕ → List ℕ → Bool
begins [] s = true
begins (x ∷ p) [] = false
begins (x ∷ p) (y ∷ s) = x == y && begins p s

-- the units as they are written, in the order in which they are tried; the signs of `µs` are U+00B5 and U+03BC
abbrev pub units : List (List ℕ × TimeUnit)
units =
    (codes "ms", Millisecond) ∷ (codes "us", Microsecond) ∷ (0xC2 ∷ 0xB5 ∷ codes "s", Microsecond) ∷ (0xCE ∷ 0xBC ∷ codes "s", Microsecond)
    ∷ (codes "ns", Nanosecond) ∷ (codes "h", Hour) ∷ (codes "m", Minute) ∷ (codes "s", Second) ∷ []

-- the first of these units that s begins with, and what follows it
abbrev pub unit_of : List (List ℕ × TimeUnit) → List ℕ → Option (TimeUnit × List ℕ)
unit_of [] s = None
unit_of (x ∷ more) s = cond (begins x.0 s) (Some (x.1, drop (length x.0) s)) (unit_of more s)

-- the unit at the front of s, and what follows it
abbrev pub leading_unit : List ℕ → Option (TimeUnit × List ℕ)
leading_unit s = unit_of units s

-- the nanoseconds of one unit
abbrev pub unit_nanoseconds : TimeUnit → ℕ
unit_nanoseconds Hour = 3600000000000
unit_nanoseconds Minute = 60000000000
unit_nanoseconds Second = 1000000000
unit_nanoseconds Millisecond = 1000000
unit_nanoseconds Microsecond = 1000
unit_nanoseconds Nanosecond = 1

-- the whole nanoseconds of n units
abbrev pub whole_nanoseconds : Numeral → TimeUnit → ℕ
whole_nanoseconds n u = n.digits * unit_nanoseconds u / 10 ^ n.decimals

-- the amount at the front of s in whole nanoseconds, and what follows it
abbrev pub leading_amount : List ℕ → Option (ℕ × List ℕ)
leading_amount s = then (leading_numeral s) (λ n. option_map (λ u. (whole_nanoseconds n.0 u.0, u.1)) (leading_unit n.1))

-- total and all the amounts that s is made of, fewer than k, while the sum stays below 2^63
unfoldable pub sum_from : ℕ → ℕ → List ℕ → Option ℕ
sum_from zero total s = None
sum_from (suc k) total [] = Some total
sum_from (suc k) total (b ∷ s) = then (leading_amount (b ∷ s)) (λ a. cond (nat_lt (total + a.0) (2 ^ 63)) (sum_from k (total + a.0) a.1) None)

-- the nanoseconds of s behind its sign: `0`, or one amount or more, and no more than s has bytes
abbrev pub magnitude : List ℕ → Option ℕ
magnitude [] = None
magnitude (b ∷ s) = cond (b == 48 && length s == 0) (Some 0) (sum_from (length (b ∷ s) + 1) 0 (b ∷ s))

-- the sign at the front of s, and what follows it
abbrev pub sign : List ℕ → Sign × List ℕ
sign [] = (Plus, [])
sign (b ∷ s) = cond (b == 45) (Minus, s) (cond (b == 43) (Plus, s) (Plus, b ∷ s))

-- n with this sign
abbrev pub signed : Sign → ℕ → ℤ
signed Plus n = pos n
signed Minus n = neg_ℤ (pos n)

-- the nanoseconds of the duration s, if it is one
unfoldable pub duration : List ℕ → Option ℤ
duration s = option_map (signed (sign s).0) (magnitude (sign s).1)
