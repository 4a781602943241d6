use Rattle.std.proofs.Common.{ℕ, List, ◌-◌, ◌<◌, length, sym, ap, ◌∙◌, leb, arith}
use Rattle.std.proofs.lemmas.List.{length-map}
use Rattle.rule_host.specs.Books.{rows_in}
use Rattle.rule_host.specs.Rows.{BookRow, given, has_space, row_bytes, rows_bytes}
use Rattle.rule_host.specs.Stored.{stored_at}
use Rattle.rule_host.proofs.Room.{size_left}
use Rattle.rule_host.proofs.book.Book.has_space.Goals as goal

pub returns-then-len-lt-ROWS : goal.returns-then-len-lt-ROWS
returns-then-len-lt-ROWS c =
    let b = c.self.inside in
    let n = row_bytes (given c.args.row) in
    let l : length (rows_in b) < 1024 = omega (arith, length-map b.rows (stored_at b.arena), c.len.ensures.value, c.if-len-lt-ROWS.true) in
    let used = c.len-then-len-lt-ROWS.ensures.value ∙ sym c.self.invariant.filled in
    ap (λ (k : ℕ). leb k (262144 - c.len-then-len-lt-ROWS.result)) c.size.ensures
    ∙ size_left (length (rows_in b)) 1024 (rows_bytes (rows_in b)) c.len-then-len-lt-ROWS.result n 262144 (omega arith) l used c.len-then-len-lt-ROWS.ensures.few
    ∙ ap (λ (rs : List BookRow). has_space rs n) c.self.view_is
