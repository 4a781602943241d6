use Rattle.std.proofs.Common.{◌≡◌, [], false, None, sym, ap, ◌∙◌}
use Rattle.rule_syntax.specs.Syntax.{constant_of, every_name, meant_operand, names_of, numeric, part}
use Rattle.std.specs.Option.{option_map}
use Rattle.rule_syntax.proofs.Operands.{operand_named}
use Rattle.rule_syntax.proofs.operand.read_word.Goals as goal

pub returns : goal.returns
returns c =
    let s = c.args.expression.now in
    let w = part c.args.place s in
    let e : c.of-word.result.now ≡ w = c.of-word.ensures in
    let plain : numeric w ≡ false = ap numeric (sym e) ∙ sym c.if-is_numeric.ensures in
    let other : constant_of w ≡ None = ap constant_of (sym e) ∙ sym (c.in_default.ensures []) in
    ap (option_map (meant_operand s)) c.then_some.ensures ∙ operand_named s c.args.place c.is_path.result plain other (c.is_path.ensures ∙ ap (λ t. every_name (names_of t)) e)
