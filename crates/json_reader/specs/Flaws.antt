-- The number and the place of a flaw.
use Rattle.std.specs.Prelude.{ℕ}
use Rattle.json_scanner.specs.declared.modes.Fault.{Fault as Flaw}
use Rattle.json_scanner.specs.declared.modes.Fault.TheVariants as flaw

-- 1 malformed, 2 nested, 3 number, 4 crowded
abbrev pub flaw_number : Flaw → ℕ
flaw_number (flaw.Malformed i) = 1
flaw_number (flaw.Nested i) = 2
flaw_number (flaw.Number i) = 3
flaw_number (flaw.Crowded i) = 4

abbrev pub flaw_place : Flaw → ℕ
flaw_place (flaw.Malformed i) = i
flaw_place (flaw.Nested i) = i
flaw_place (flaw.Number i) = i
flaw_place (flaw.Crowded i) = i
