use Rattle.schema.proofs.Below.{found_below}
use Rattle.schema.proofs.Means.{parts_mean}
use Rattle.schema.proofs.document.SchemaAt.part.Goals as goal

pub returns-in_err-members-clause-means : goal.returns-in_err-members-clause-means
returns-in_err-members-clause-means c = parts_mean _ _ _

pub returns-clause-within : goal.returns-clause-within
returns-clause-within c =
    let span = c.in_ok-members.members in
    rw c.seek.ensures (found_below _ span.first span.count c.args.self.at c.in_ok-members.ensures.within)

pub returns-clause-means : goal.returns-clause-means
returns-clause-means c = parts_mean _ _ _
