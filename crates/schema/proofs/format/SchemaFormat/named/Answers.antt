use Rattle.std.proofs.Common.{rules, Some, codes, ap, sym}
use Rattle.std.proofs.lemmas.Slice.Eq.{text_from_reads}
use Rattle.schema.specs.Parts.{named_format}
use Rattle.schema.proofs.format.SchemaFormat.named.Goals as goal

pub returns-in-duration : goal.returns-in-duration
returns-in-duration c = sym (ap (λ t. named_format (Some t)) (text_from_reads c.args.name.now (codes "duration") (search rules) (search rules)))
