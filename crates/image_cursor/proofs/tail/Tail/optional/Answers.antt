use Rattle.std.proofs.Common.{◌≡◌, rules}
use Rattle.image.specs.declared.command.Command.TheVariants.{Empty, Present}
use Rattle.image_cursor.proofs.Scoping.{plain_at, plain_ok}
use Rattle.image_cursor.proofs.tail.Tail.optional.Goals as goal

pub returns-in_default : goal.returns-in_default
returns-in_default c =
    let s = c.args.self.rest.now in
    let r = c.in_ok-command.behind.rest.now in
    let command = c.in_ok-command.command in
    let no_empty : command ≡ Empty → ⊥ = search rules in
    let no_present : command ≡ Present → ⊥ = search rules in
    let is = c.then_some-in_default.ensures in
    record {
      old = λ bytes from. rw is (plain_at s r command c.in_ok-command.ensures.value no_empty no_present bytes c.args.self.place c.is_whole-in_default.result c.is_whole-in_default.ensures from);
      ok = rw is (plain_ok s r command c.in_ok-command.ensures.value no_empty no_present c.is_whole-in_default.result _ c.is_whole-in_default.ensures);
    }
