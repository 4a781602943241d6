use Rattle.std.proofs.Common.{◌≡◌, ◌++◌, List, ℕ, true, length, is_some}
use Rattle.writer.proofs.Puts.{Went}
use Rattle.base64_texts.specs.Base64.{decoded}
use Rattle.base64_texts.specs.Base64Decoder.{bytes_of}
use Rattle.base64_texts.proofs.base64.write_all.Given as goal

-- what is left is base64, and its bytes follow those that are written
abbrev pub invariant-loop-signs : goal.invariant-loop-signs
invariant-loop-signs l = record {
  base64 : is_some (decoded l.left) ≡ true;
  name : l.writer.out.ghost_name ≡ l.initial.writer.out.ghost_name;
  front : (front : List ℕ) × (bytes_of l.fn.text ≡ front ++ bytes_of l.left) × Went l.initial.writer.out.now l.initial.writer.at front l.writer.out.now l.writer.at;
}

abbrev pub decreases-loop-signs : goal.decreases-loop-signs
decreases-loop-signs l = length l.left
