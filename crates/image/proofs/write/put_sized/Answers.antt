use Rattle.std.proofs.Common.{◌≡◌, false, is_ok, rules}
use Rattle.image.proofs.Sized.{length_held, too_long, two_steps}
use Rattle.std.proofs.lemmas.Result.{OkIff-decides}
use Rattle.image.proofs.write.put_sized.Goals as goal

pub returns-in_err-len : goal.returns-in_err-len
returns-in_err-len c =
    let failed : is_ok c.try_from.result ≡ false = search rules in
    too_long (λ short. let z : ⊥ = cc ((OkIff-decides _ _ _ c.try_from.ensures).1 short) in z) (search rules)

pub returns : goal.returns
returns c =
    two_steps {m = c.in_ok-len.len} (length_held _ c.try_from.result c.try_from.ensures c.map_err.ensures.cases c.map_err.ensures.variant (search rules)) (search rules) c.put.ensures
