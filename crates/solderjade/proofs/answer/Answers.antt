use Rattle.std.proofs.Common.{rules}
use Rattle.base64_texts.specs.Base64.{decoded}
use Rattle.durations.specs.Duration.{duration}
use Rattle.escaping.specs.Escape.{escape}
use Rattle.solderjade.specs.Shown.{shown_bytes, shown_duration}
use Rattle.solderjade.proofs.answer.Goals as goal

pub returns-in-bytes : goal.returns-in-bytes
returns-in-bytes c =
    let out = c.print_all.ensures (λ s. shown_bytes (decoded s)) (λ heap word r p. p.1) in
    search rules

pub returns-in-duration : goal.returns-in-duration
returns-in-duration c =
    let out = c.print_all-in-duration.ensures (λ s. shown_duration (duration s)) (λ heap word r p. p.1) in
    search rules

pub returns-in-escape : goal.returns-in-escape
returns-in-escape c =
    let out = c.print_all-in-escape.ensures escape (λ heap word r p. p.1) in
    search rules
