use Rattle.std.proofs.Common.{◌≡◌, Some, sym, ap, ◌∙◌, rules}
use Rattle.image.proofs.Laws.{decodes_scopes}
use Rattle.image.specs.declared.command.Command.TheVariants.{Own}
use Rattle.image_cursor.proofs.Octets.{all_octets, typed}
use Rattle.image_cursor.proofs.Scoping.{scope_all, scope_no_old, scope_no_self, scope_none, scope_other}
use Rattle.image_cursor.specs.Operands.{front_command}
use Rattle.image_cursor.proofs.scope.read_scope.Goals as goal

pub returns-in_err-command : goal.returns-in_err-command
returns-in_err-command c =
    let bs = c.args.bytes.now in
    let s = scope_none bs (typed bs c.type_inv.bytes) (c.in_err-command.ensures.value ∙ ap front_command c.of.ensures.rest) in
    rw c.from_residual.ensures (record { scope = s.scope_is; ok = s.ok; lawful = decodes_scopes })

pub returns-then-ne : goal.returns-then-ne
returns-then-ne c =
    let bs = c.args.bytes.now in
    let other : c.in_ok-command.command ≡ Own → ⊥ = search rules in
    let s = scope_other bs (typed bs c.type_inv.bytes) c.in_ok-command.command c.in_ok-command.own.rest.now other (c.in_ok-command.ensures.value ∙ ap front_command c.of.ensures.rest) in
    record { scope = s.scope_is; ok = s.ok; lawful = decodes_scopes }

pub returns-in_err-checked : goal.returns-in_err-checked
returns-in_err-checked c =
    let bs = c.args.bytes.now in
    let own = c.in_ok-command.own in
    let is_own : c.in_ok-command.command ≡ Own = search rules in
    let read = ap (λ k. Some (k, own.rest.now)) (sym is_own) ∙ c.in_ok-command.ensures.value ∙ ap front_command c.of.ensures.rest in
    let s = scope_no_self bs (typed bs c.type_inv.bytes) c.of.result own c.of.ensures.rest c.of.ensures.place c.in_ok-command.ensures.end read c.in_err-checked.ensures.value in
    rw c.from_residual-in_err-checked.ensures (record { scope = s.scope_is; ok = s.ok; lawful = decodes_scopes })

pub returns-in_err-old : goal.returns-in_err-old
returns-in_err-old c =
    let bs = c.args.bytes.now in
    let own = c.in_ok-command.own in
    let is_own : c.in_ok-command.command ≡ Own = search rules in
    let read = ap (λ k. Some (k, own.rest.now)) (sym is_own) ∙ c.in_ok-command.ensures.value ∙ ap front_command c.of.ensures.rest in
    let past = c.in_ok-checked.field-0 in
    let s = scope_no_old bs (typed bs c.type_inv.bytes) c.of.result own c.of.ensures.rest c.of.ensures.place c.in_ok-command.ensures.end read past (all_octets own.rest.now own.octets) c.in_ok-checked.ensures.end c.in_ok-checked.ensures.value c.in_err-old.ensures.ok in
    rw c.from_residual-in_err-old.ensures (record { scope = s.scope_is; ok = s.ok; lawful = decodes_scopes })

pub returns : goal.returns
returns c =
    let bs = c.args.bytes.now in
    let own = c.in_ok-command.own in
    let is_own : c.in_ok-command.command ≡ Own = search rules in
    let read = ap (λ k. Some (k, own.rest.now)) (sym is_own) ∙ c.in_ok-command.ensures.value ∙ ap front_command c.of.ensures.rest in
    let past = c.in_ok-checked.field-0 in
    let s = scope_all bs (typed bs c.type_inv.bytes) c.of.result own c.of.ensures.rest c.of.ensures.place c.in_ok-command.ensures.end read past (all_octets own.rest.now own.octets) c.in_ok-checked.ensures.end c.in_ok-checked.ensures.value c.in_ok-old.old c.in_ok-old.ensures.old c.in_ok-old.ensures.ok in
    record { scope = s.scope_is; ok = s.ok; lawful = decodes_scopes }
