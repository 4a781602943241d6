-- What stands where a text is refused.
use Rattle.std.specs.Prelude.{◌≡◌, ℕ, suc, ◌+◌, ◌<◌, ◌≤◌, Bool, true, ◌||◌, ◌⊎◌, List, [], ◌∷◌, ◌++◌, length, take, ◌==◌}
use Rattle.std.specs.Char.{is_ascii_digit}
use Rattle.json_scanner.specs.declared.modes.Fault.{Fault}
use Rattle.json_scanner.specs.declared.modes.Fault.TheVariants as fault
use Rattle.json_scanner.specs.Grammar.{Tree, Trees, nil, Members, none, sizes, member_sizes, size, unfit, Blank, Whole, Real, Name, Elements, Entries, Text, Viable}
use Rattle.json_scanner.specs.Machine.{Frame, bare, sole, items, fields, field}

-- the place of a fault: the bytes before it
abbrev pub place_of : Fault → ℕ
place_of (fault.Malformed p) = p
place_of (fault.Nested p) = p
place_of (fault.Number p) = p
place_of (fault.Crowded p) = p

-- the number of a fault's kind
abbrev pub number_of : Fault → ℕ
number_of (fault.Malformed p) = 1
number_of (fault.Nested p) = 2
number_of (fault.Number p) = 3
number_of (fault.Crowded p) = 4

-- f counts before g or is g: the lower place, then the lower number
abbrev pub CountsFirst : Fault → Fault → Type 0
CountsFirst f g = (place_of f < place_of g) ⊎ ((place_of f ≡ place_of g) × (number_of f ≤ number_of g))

-- from the bracket of a list or an object to where a value of its own is wanted
pub data Inner : Frame → List ℕ → Type 0 where
  first : {a : List ℕ} → Blank a → Inner (items nil) (91 ∷ a)
  next : {ts : Trees} {e a : List ℕ} → Elements ts e → Blank a → Inner (items ts) (91 ∷ e ++ 44 ∷ a)
  first_field : {k n a : List ℕ} → Name k n → Blank a → Inner (field none k) (123 ∷ n ++ a)
  next_field : {ms : Members} {k e n a : List ℕ} → Entries ms e → Name k n → Blank a → Inner (field ms k) (123 ∷ e ++ 44 ∷ n ++ a)

-- a value is wanted behind u, in the containers bs
pub data Place : Frame → List Frame → List ℕ → Type 0 where
  top : {a : List ℕ} → Blank a → Place bare [] a
  within : {f g : Frame} {bs : List Frame} {u w : List ℕ} → Place f bs u → Inner g w → Place g (f ∷ bs) (u ++ w)

-- the values in a container so far
abbrev pub inner_values : Frame → ℕ
inner_values bare = 0
inner_values (sole v) = size v
inner_values (items ts) = sizes ts
inner_values (fields ms) = member_sizes ms
inner_values (field ms k) = member_sizes ms

-- all the values that have begun: those that are open too
abbrev pub values_before : Frame → List Frame → ℕ
values_before f [] = inner_values f
values_before f (g ∷ gs) = inner_values f + suc (values_before g gs)

-- a byte with which a value begins
abbrev pub starts : ℕ → Bool
starts b = is_ascii_digit b || (b == 45 || (b == 34 || (b == 91 || (b == 123 || (b == 110 || (b == 116 || b == 102))))))

-- a bracket or a brace
abbrev pub opens : ℕ → Bool
opens b = b == 91 || b == 123

-- a number that is not an integer that fits
abbrev pub Unfit : List ℕ → Type 0
Unfit d = ((g : Bool) × (k : ℕ) × Whole g k d × (unfit g k ≡ true)) ⊎ Real d

-- some text begins with the first p bytes, and none with one more; at the end, the whole is no text
pub record Breaks (s : List ℕ) (p : ℕ) : Type 0 where
  pub inside : p ≤ length s
  pub so_far : Viable (take p s)
  pub no_more : p < length s → Viable (take (p + 1) s) → ⊥
  pub no_text : (v : Tree) → Text v s → ⊥

-- at q a value is wanted, and a list or an object in 200 others opens
pub record Nests (s : List ℕ) (q : ℕ) : Type 0 where
  pub before : List ℕ
  pub b : ℕ
  pub rest : List ℕ
  pub f : Frame
  pub bs : List Frame
  pub split : s ≡ before ++ b ∷ rest
  pub place : q ≡ length before
  pub wanted : Place f bs before
  pub bracket : opens b ≡ true
  pub deep : 200 ≤ length bs

-- at q a value is wanted, and a number begins that does not fit
pub record Misfits (s : List ℕ) (q : ℕ) : Type 0 where
  pub before : List ℕ
  pub digits : List ℕ
  pub rest : List ℕ
  pub f : Frame
  pub bs : List Frame
  pub split : s ≡ before ++ (digits ++ rest)
  pub place : q ≡ length before
  pub wanted : Place f bs before
  pub misfit : Unfit digits

-- at q a value is wanted and begins, behind 4,096 others
pub record Crowds (s : List ℕ) (q : ℕ) : Type 0 where
  pub before : List ℕ
  pub b : ℕ
  pub rest : List ℕ
  pub f : Frame
  pub bs : List Frame
  pub split : s ≡ before ++ b ∷ rest
  pub place : q ≡ length before
  pub wanted : Place f bs before
  pub begins : starts b ≡ true
  pub many : 4096 ≤ values_before f bs

-- the text s has the fault
abbrev pub Faulty : List ℕ → Fault → Type 0
Faulty s (fault.Malformed p) = Breaks s p
Faulty s (fault.Nested p) = Nests s p
Faulty s (fault.Number p) = Misfits s p
Faulty s (fault.Crowded p) = Crowds s p
