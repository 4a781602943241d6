use Rattle.std.proofs.Common.{◌≡◌, ◌<◌, [], ◌∷◌, ◌++◌, length, None, Some, Ok, Err, MatchResult, sym, refl, ap, ◌∙◌, arith, rules}
use Rattle.std.proofs.lemmas.Bool.{eqb-true}
use Rattle.std.proofs.lemmas.Bool.Decides.{nat_tests}
use Rattle.rule_syntax.specs.declared.rule.Refused.TheVariants.{Syntax, Full}
use Rattle.rule_syntax.specs.Syntax.{leading_comparison, meant, reads}
use Rattle.rule_syntax.proofs.Readers.{within_length, comparison_within}
use Rattle.rule_syntax.proofs.Rules.{and_passed, and_shorter, comparison_read, filled_read, filled_syntax, going_end, going_ill, going_next, going_start, going_stuck, tabled_more, tabled_start}
use Rattle.rule_syntax.proofs.read.read_rule.Goals as goal

pub loop-comparison-init : goal.loop-comparison-init
loop-comparison-init g c = ([], going_start c.args.expression.now, tabled_start g.row.N c.args.comparisons.now, refl)

pub returns-in_err-comparison : goal.returns-in_err-comparison
returns-in_err-comparison g c =
    let i = c.loop-comparison.invariant in
    let rest = c.loop-comparison.reader.rest.now in
    let stuck : leading_comparison rest ≡ None = sym c.comparison.ensures.value ∙ ap (λ o. reads (meant c.loop-comparison.reader.expression.now) o c.comparison.new.self.rest.now) c.in_err-comparison.ensures.ok_part in
    let r : c.from_residual.result ≡ Err Syntax = search rules in
    filled_syntax g.row.N c.args.expression.now c.args.comparisons.now c.loop-comparison.comparisons c.from_residual.result r (going_stuck c.args.expression.now i.0 rest i.1 stuck) i.2.kept

pub returns-then-is_empty : goal.returns-then-is_empty
returns-then-is_empty g c =
    let i = c.loop-comparison.invariant in
    let s = c.args.expression.now in
    let x = c.in_ok-comparison.comparison in
    let rest = c.loop-comparison.reader.rest.now in
    let t = c.comparison.new.self.rest.now in
    let read = comparison_read s c.loop-comparison.reader.expression.now rest t c.comparison.result x c.comparison.ensures.value c.in_ok-comparison.ensures.ok_part i.3 in
    let none : length t ≡ 0 = eqb-true _ 0 (sym c.if-is_empty.ensures) in
    let table = tabled_more g.row.N c.args.comparisons.now c.loop-comparison.room c.push.result c.and-room.result c.loop-comparison.comparisons c.push.new.self i.0 x c.and-room.ensures c.push.ensures.cases i.2 in
    let told : MatchResult c.and-room.result (λ u. c.map_err.result ≡ Ok u) (λ _. c.map_err.result ≡ Err Full) = search rules in
    filled_read g.row.N s c.args.comparisons.now c.push.new.self (i.0 ++ x ∷ []) c.and-room.result c.map_err.result told (going_end s i.0 rest x t i.1 read none) table

pub returns-in_err-ok_or : goal.returns-in_err-ok_or
returns-in_err-ok_or g c =
    let i = c.loop-comparison.invariant in
    let s = c.args.expression.now in
    let x = c.in_ok-comparison.comparison in
    let rest = c.loop-comparison.reader.rest.now in
    let t = c.comparison.new.self.rest.now in
    let read = comparison_read s c.loop-comparison.reader.expression.now rest t c.comparison.result x c.comparison.ensures.value c.in_ok-comparison.ensures.ok_part i.3 in
    let some : 0 < length t = grind (arith, nat_tests) in
    let none = and_passed t c.skip_and.new.self.rest.now c.skip_and.result None c.skip_and.ensures.value c.in_err-ok_or.ensures.ok_part in
    let r : c.from_residual-in_err-ok_or.result ≡ Err Syntax = search rules in
    let table = tabled_more g.row.N c.args.comparisons.now c.loop-comparison.room c.push.result c.and-room.result c.loop-comparison.comparisons c.push.new.self i.0 x c.and-room.ensures c.push.ensures.cases i.2 in
    filled_syntax g.row.N s c.args.comparisons.now c.push.new.self c.from_residual-in_err-ok_or.result r (going_ill s i.0 rest x t i.1 read some none) table.kept

pub loop-comparison-smaller : goal.loop-comparison-smaller
loop-comparison-smaller g c =
    let s = c.args.expression.now in
    let x = c.in_ok-comparison.comparison in
    let rest = c.loop-comparison.reader.rest.now in
    let t = c.comparison.new.self.rest.now in
    let read = comparison_read s c.loop-comparison.reader.expression.now rest t c.comparison.result x c.comparison.ensures.value c.in_ok-comparison.ensures.ok_part c.loop-comparison.invariant.3 in
    let some : 0 < length t = grind (arith, nat_tests) in
    let next = and_passed t c.skip_and.new.self.rest.now c.skip_and.result (Some tt) c.skip_and.ensures.value c.in_ok-ok_or.ensures.ok_part in
    omega (arith, within_length rest t (comparison_within rest (meant s x, t) read), and_shorter t c.skip_and.new.self.rest.now next some)

pub loop-comparison-preserved : goal.loop-comparison-preserved
loop-comparison-preserved g c =
    let i = c.loop-comparison.invariant in
    let s = c.args.expression.now in
    let x = c.in_ok-comparison.comparison in
    let rest = c.loop-comparison.reader.rest.now in
    let t = c.comparison.new.self.rest.now in
    let read = comparison_read s c.loop-comparison.reader.expression.now rest t c.comparison.result x c.comparison.ensures.value c.in_ok-comparison.ensures.ok_part i.3 in
    let some : 0 < length t = grind (arith, nat_tests) in
    let next = and_passed t c.skip_and.new.self.rest.now c.skip_and.result (Some tt) c.skip_and.ensures.value c.in_ok-ok_or.ensures.ok_part in
    let table = tabled_more g.row.N c.args.comparisons.now c.loop-comparison.room c.push.result c.and-room.result c.loop-comparison.comparisons c.push.new.self i.0 x c.and-room.ensures c.push.ensures.cases i.2 in
    (i.0 ++ x ∷ [], going_next s i.0 rest x t c.skip_and.new.self.rest.now i.1 read some next, table, ap (λ b. b.now) (c.skip_and.ensures.expression ∙ c.comparison.ensures.expression) ∙ i.3)
