-- Worked cases of the definitions that the contracts of the library cite, all together.
use Rattle.escaping.specs.Laws.{WorkedNames}
use Rattle.durations.specs.DurationCases.{WorkedDurations}
use Rattle.base64_texts.specs.Base64Cases.{WorkedBytes}

pub record WorkedCases : Type 0 where
  -- three names that look alike, and their escapes
  pub names : WorkedNames
  -- durations, and texts that are none
  pub durations : WorkedDurations
  -- base64 with its padding, and with a spare bit
  pub bytes : WorkedBytes
