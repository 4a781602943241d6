use Rattle.std.proofs.Common.{ℕ, List, sym, ap, ◌∙◌}
use Rattle.rule_host.specs.Compiling.{Compilation}
use Rattle.rule_host.proofs.Compilings.{compiling_laws, repeated}
use Rattle.rule_host.proofs.again.compile_twice.Goals as goal

pub returns : goal.returns
returns g c =
    let h = g.H.RuleHost in
    let a = c.compile-first.ensures in
    let b = c.compile-second.ensures in
    let before = c.args.host.now in
    let after = c.compile-first.new.self in
    let r = repeated (h.meaning before) (h.meaning after) (h.accepted before) (h.accepted after) c.args.expression.now a.kept a.list in
    record {
      kept = b.kept ∙ a.kept;
      first = a.answer;
      same = b.answer ∙ ap (λ (p : Compilation × List (List ℕ)). p.0) r ∙ sym a.answer;
      list = b.list ∙ ap (λ (p : Compilation × List (List ℕ)). p.1) r;
      laws = compiling_laws;
    }
