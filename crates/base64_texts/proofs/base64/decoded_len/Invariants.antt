use Rattle.std.proofs.Common.{◌≡◌, ℕ, ◌+◌, ◌≤◌, List, length}
use Rattle.std.specs.Option.{option_map}
use Rattle.base64_texts.specs.Base64.{decoded}
use Rattle.base64_texts.proofs.base64.decoded_len.Given as goal

-- what is left has so many bytes less, and each byte so far was of a sign
abbrev pub invariant-loop-signs : goal.invariant-loop-signs
invariant-loop-signs l = record {
  counted : option_map length (decoded l.fn.text) ≡ option_map (λ (more : List ℕ). l.len + length more) (decoded l.left);
  within : l.len + length l.left ≤ length l.fn.text;
}

abbrev pub decreases-loop-signs : goal.decreases-loop-signs
decreases-loop-signs l = length l.left
