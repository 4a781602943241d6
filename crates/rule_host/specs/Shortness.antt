-- The texts that an answer book gives are short.
use Rattle.std.specs.Prelude.{◌≡◌, ℕ, Bool, true, false, cond, List, [], ◌∷◌, length, Some, None, Option, find, nat_le, unwrap_or, refl}
use Rattle.std.specs.Option.{IfSome}
use Rattle.std.proofs.Common.{lit≤}
use Rattle.std.proofs.lemmas.Bool.{leb-true}
use Rattle.rule_host.specs.Meaning.{Short, ShortJudgement, ShortEvaluation}
use Rattle.rule_host.specs.Outcomes.{text_of}
use Rattle.rule_host.specs.Rows.{BookRow, is_short, present, judgement_by, evaluation_by}

pub short_judged : (o : Option BookRow) → ShortJudgement (judgement_by o)
short_judged None = lit≤ tt
short_judged (Some r) = tt

short_text : (t : Option (List ℕ)) → nat_le (length (unwrap_or t [])) 1024 ≡ true → IfSome t Short
short_text None h = tt
short_text (Some t) h = leb-true (length t) 1024 h

short_here : (r : BookRow) (rest : Option BookRow) (b : Bool) → ShortEvaluation r.outcome → ShortEvaluation (evaluation_by rest) → ShortEvaluation (evaluation_by (cond b (Some r) rest))
short_here r rest true h k = h
short_here r rest false h k = k

short_kept : (p : BookRow → Bool) (r : BookRow) (rs : List BookRow) (b : Bool) → is_short r.outcome ≡ b → ShortEvaluation (evaluation_by (find p rs)) → ShortEvaluation (evaluation_by (find p (cond b (r ∷ rs) rs)))
short_kept p r rs true h k = short_here r (find p rs) (p r) (short_text (text_of r.outcome) h) k
short_kept p r rs false h k = k

pub short_first : (p : BookRow → Bool) (rs : List BookRow) → ShortEvaluation (evaluation_by (find p (present rs)))
short_first p [] = lit≤ tt
short_first p (r ∷ rs) = short_kept p r (present rs) (is_short r.outcome) refl (short_first p rs)
