use Rattle.std.proofs.Common.{ℕ, ◌+◌, ◌≤◌, List, [], ◌∷◌, ◌++◌, length, refl, sym, subst, ap, ◌∙◌, arith, rules}
use Rattle.std.proofs.lemmas.Bool.{le-leb, cond-true}
use Rattle.std.proofs.lemmas.List.{length-map}
use Rattle.fixed.specs.declared.slice.Slice.{Slice}
use Rattle.rule_host.specs.Rows.{BookRow, given, row_bytes, rows_bytes}
use Rattle.rule_host.specs.Stored.{stored_at}
use Rattle.rule_host.specs.declared.book.Book.TheInside.{Inside}
use Rattle.rule_host.specs.declared.row.Row.{Row}
use Rattle.rule_host.proofs.Adding.{Added, added, offered-taken}
use Rattle.rule_host.proofs.Mapped.{mapped}
use Rattle.rule_host.proofs.Room.{room_is}
use Rattle.rule_host.proofs.book.Book.add.Goals as goal

-- the row has its place at the end
grown : (c : goal.After-push) → Added c.self.inside (record { arena = c.append-text.new.arena; rows = c.push.new.self }) (given c.args.row)
grown c =
    let b = c.self.inside in
    let r = c.args.row in
    let s = c.append-text.result in
    let x : Row Slice = record { expression = c.append-expression.result; marked = r.marked; image = c.append-image.result; outcome = c.map.result } in
    let e = c.append-expression.ensures in
    let i = c.append-image.ensures in
    let t = c.append-text.ensures in
    let old = c.args.self.now in
    let room = room_is (length old + 1) 1024 (rows_bytes old + row_bytes (given r)) 262144 (sym c.if-not-has_space.ensures) in
    let few : length b.rows + 1 ≤ 1024 = omega (arith, room.0, ap length c.self.view_is, length-map b.rows (stored_at b.arena)) in
    let two = i.arena ∙ ap (λ (l : List ℕ). l ++ r.image.now) e.arena in
    let all = t.arena ∙ (λ k. two k ++ c.text.ensures k) in
    let rows = c.push.ensures.list ∙ cond-true _ _ _ (le-leb (length b.rows + 1) 1024 few) in
    let P : Inside → Type 0 = λ now. Added b now (given r) in
    subst P (λ k. record { arena = sym all k; rows = sym rows k })
    (added b r x s c.self.invariant (sym c.if-not-is_short.ensures) (e.start, e.len) refl (i.start ∙ ap length e.arena, i.len) (t.start ∙ ap length two, t.len ∙ ap length c.text.ensures)
    (mapped _ (λ _. s) (λ v u h. search rules) r.outcome c.map.result c.map.ensures))

pub invariant_of-self : goal.invariant_of-self
invariant_of-self c = (grown c).kept

pub returns-clause-rows : goal.returns-clause-rows
returns-clause-rows c =
    let r = given c.args.row in
    (grown c).is
    ∙ ap (λ (rs : List BookRow). rs ++ r ∷ []) c.self.view_is
    ∙ sym (λ k. (offered-taken c.args.self.now r (sym c.if-not-is_short.ensures) (sym c.if-not-has_space.ensures) k).1)
