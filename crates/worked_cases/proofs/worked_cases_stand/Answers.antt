use Rattle.escaping.proofs.Collide.{worked_names}
use Rattle.durations.proofs.DurationCases.{worked_durations}
use Rattle.base64_texts.proofs.Base64Cases.{worked_bytes}
use Rattle.worked_cases.proofs.worked_cases_stand.Goals as goal

pub returns : goal.returns
returns c = record { names = worked_names; durations = worked_durations; bytes = worked_bytes }
