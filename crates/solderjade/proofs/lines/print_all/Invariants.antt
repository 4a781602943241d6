use Rattle.std.proofs.Common.{◌≡◌, ℕ, List, map, take, vec_items, string_bytes}
use Rattle.solderjade.specs.Shown.{lines_of, Prints}
use Rattle.solderjade.proofs.lines.print_all.Given as goal

abbrev pub invariant-loop-word : goal.invariant-loop-word
invariant-loop-word g l = (prints : List ℕ → List ℕ) → Prints g.F.Fn l.line prints → vec_items l.lines ≡ lines_of prints (map string_bytes (take l.word-index l.words))
