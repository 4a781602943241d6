-- What the decoder's functions answer, and what they leave in a buffer.

use Rattle.std.specs.Prelude.{ℕ, cond, List, [], length, Some, None, Ok, Err, Option, Result, nat_le}
use Rattle.std.specs.Option.{unwrap_or}
use Rattle.base64_texts.specs.declared.base64.DecodeError.{DecodeError}
use Rattle.base64_texts.specs.declared.base64.DecodeError.TheVariants.{NotBase64, BufferShort}
use Rattle.base64_texts.specs.declared.base64.Octets.{Octets}
use Rattle.base64_texts.specs.declared.base64.Octets.TheVariants.{One, Two, Three}
use Rattle.base64_texts.specs.Base64.{decoded}
use Rattle.writer.specs.Written.{written}

-- the answer for what a text stands for, with room for so many bytes
abbrev pub answer : Option (List ℕ) → ℕ → Result ℕ DecodeError
answer None room = Err NotBase64
answer (Some bytes) room = cond (nat_le (length bytes) room) (Ok (length bytes)) (Err BufferShort)

-- the buffer that is left: the bytes at its front where there are any and they fit, else as it was
abbrev pub filled : Option (List ℕ) → List ℕ → List ℕ
filled None out = out
filled (Some bytes) out = written out 0 bytes

-- the bytes of a text, and none where it is no base64
abbrev pub bytes_of : List ℕ → List ℕ
bytes_of text = unwrap_or (decoded text) []

-- the octets that four signs gave, first to last
abbrev pub octets : Octets → List ℕ
octets (One xs) = xs
octets (Two xs) = xs
octets (Three xs) = xs
