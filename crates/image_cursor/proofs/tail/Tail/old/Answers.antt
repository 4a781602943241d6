use Rattle.std.proofs.Common.{Some, sym, ap, ◌∙◌}
use Rattle.image.specs.declared.command.Command.TheVariants.{Old}
use Rattle.image_cursor.proofs.Scoping.{behind_command, old_is}
use Rattle.image_cursor.proofs.tail.Tail.old.Goals as goal

pub returns-in-Old-default-clause-old : goal.returns-in-Old-default-clause-old
returns-in-Old-default-clause-old c =
    let s = c.args.self in
    let t = c.in_ok-behind.field-0.1 in
    let read = ap (λ k. Some (k, t.rest.now)) (sym c.in-Old-default.is-0) ∙ c.in_ok-behind.ensures.value in
    λ bytes from.
    old_is s.rest.now t.rest.now read ∙ c.optional.ensures.old bytes (behind_command bytes s t Old from c.in_ok-behind.ensures.end read)
