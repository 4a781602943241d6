use Rattle.schema.proofs.Means.{parts_mean}
use Rattle.schema.proofs.document.Document.schema.Goals as goal

pub returns-clause-means : goal.returns-clause-means
returns-clause-means c = parts_mean _ _ _
