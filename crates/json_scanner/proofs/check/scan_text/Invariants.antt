use Rattle.std.proofs.Common.{◌≡◌, drop}
use Rattle.json_scanner.specs.Machine.{fresh, scan}
use Rattle.json_scanner.proofs.check.scan_text.Given as goal

abbrev pub invariant-loop-i : goal.invariant-loop-i
invariant-loop-i l = scan fresh 0 l.text ≡ scan l.scanner l.i (drop l.i l.text)
