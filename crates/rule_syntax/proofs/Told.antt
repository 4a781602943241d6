-- What is answered of a text.
use Rattle.std.proofs.Common.{◌≡◌, ℕ, ◌+◌, ◌-◌, ◌≤◌, Bool, cond, List, [], map, length, take, drop, Ok, Err, Result, sym, refl, ap, ◌∙◌, arith, length-append}
use Rattle.std.proofs.lemmas.List.{take_at, drop_at, take_all, drop_all, length-map}
use Rattle.std.proofs.lemmas.Bool.{le-leb, lt-leb}
use Rattle.rule_syntax.specs.declared.rule.Comparison.{Comparison}
use Rattle.rule_syntax.specs.declared.rule.Refused.{Refused}
use Rattle.rule_syntax.specs.declared.rule.Refused.TheVariants.{Syntax, Full}
use Rattle.rule_syntax.specs.declared.rule.Span.{Span}
use Rattle.rule_syntax.specs.Syntax.{Compared, parsed, meant, told, answered, Filled}

-- what is told of a rule that has been read
abbrev read_told : ℕ → List Comparison → List Compared → Bool → Result Span Refused × (List Comparison × List Compared)
read_told room before cs b = cond b (Ok (record { start = length before; len = length cs }), (before, cs)) (Err Full, (before, []))

pub filled-longer : (room : ℕ) (s : List ℕ) (before after : List Comparison) (u : Unit {0}) → Filled room s before (Ok u) after → length before ≤ length after
filled-longer room s before after u (cs, e, a) = omega (arith, ap length a, length-append before cs)

pub told_ok : (room : ℕ) (s : List ℕ) (before after : List Comparison) (u : Unit {0}) (start len : ℕ) → Filled room s before (Ok u) after → length after ≤ room → start ≡ length before → len ≡ length after - start
    → answered s (length before) (Ok (record { start = start; len = len })) after ≡ told room before (parsed s)
told_ok room s before after u start len (cs, e, a) fits es el =
    let n : length after ≡ length before + length cs = ap length a ∙ length-append before cs in
    let m : length (map (meant s) cs) ≡ length cs = length-map cs (meant s) in
    let k : len ≡ length (map (meant s) cs) = omega arith in
    let t : take (length before) after ≡ before = ap (take (length before)) a ∙ take_at before cs (length before) refl in
    let d : drop (length before) after ≡ cs = ap (drop (length before)) a ∙ drop_at before cs (length before) refl in
    (λ i. (Ok (record { start = es i; len = k i }), (t i, map (meant s) (d i))))
    ∙ ap (read_told room before (map (meant s) cs)) (sym (le-leb (length before + length (map (meant s) cs)) room (omega arith)))
    ∙ ap (told room before) (sym e)

back : (s : List ℕ) (before after left : List Comparison) (start : ℕ) (e : Refused) → start ≡ length before → take (length before) after ≡ before → left ≡ take start after
    → ◌≡◌ {A = Result Span Refused × (List Comparison × List Compared)} (answered s (length before) (Err e) left) (Err e, (before, []))
back s before after left start e es kept l =
    let b : left ≡ before = l ∙ ap (λ n. take n after) es ∙ kept in
    let t : take (length before) left ≡ before = ap (take (length before)) b ∙ take_all (length before) before (omega arith) in
    let d : drop (length before) left ≡ [] = ap (drop (length before)) b ∙ drop_all (length before) before (omega arith) in
    λ i. (Err e, (t i, map (meant s) (d i)))

pub told_err : (room : ℕ) (s : List ℕ) (before after left : List Comparison) (start : ℕ) (e : Refused) → Filled room s before (Err e) after → start ≡ length before → left ≡ take start after
    → answered s (length before) (Err e) left ≡ told room before (parsed s)
told_err room s before after left start Syntax (none, kept) es l = back s before after left start Syntax es kept l ∙ ap (told room before) (sym none)
told_err room s before after left start Full (cs, some, over, kept) es l =
    back s before after left start Full es kept l
    ∙ ap (read_told room before (map (meant s) cs)) (sym (lt-leb (length before + length (map (meant s) cs)) room (omega (arith, length-map cs (meant s)))))
    ∙ ap (told room before) (sym some)
