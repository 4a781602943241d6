-- The worked texts: antt computes them.

use Rattle.std.proofs.Common.{refl}
use Rattle.base64_texts.specs.Base64.{decoded}
use Rattle.base64_texts.specs.Base64Cases.{WorkedBytes}

pub worked_bytes : WorkedBytes
unfolding decoded
worked_bytes = record { padded = refl; spare = refl }
