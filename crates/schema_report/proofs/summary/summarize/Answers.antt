use Rattle.std.proofs.Common.{rules, ◌≡◌, ℕ, ◌+◌, cond, Bool, List, [], ◌∷◌, length, map, ap, sym, refl, ◌∙◌}
use Rattle.std.proofs.lemmas.List.{length-map}
use Rattle.std.specs.Prelude.{count_by, fold}
use Rattle.compilation.specs.Compiled.{fate_of}
use Rattle.compilation.specs.Fates.{Fate}
use Rattle.compilation.specs.declared.validation.CompilationError.{CompilationError}
use Rattle.compilation.specs.declared.validation.CompilationResult.{CompilationResult}
use Rattle.std.specs.Prelude.{Result}
use Rattle.schema_report.specs.Counted.{is_ill, is_invalid}
use Rattle.schema_report.proofs.summary.summarize.Goals as goal

fold-map : (f : ℕ → Fate → ℕ) (n : ℕ) (xs : List (Result CompilationResult CompilationError)) → fold f n (map fate_of xs) ≡ fold (λ n x. f n (fate_of x)) n xs
fold-map f n [] = refl
fold-map f n (x ∷ xs) = fold-map f (f n (fate_of x)) xs

-- counting by what the elements stand for
count_by-map : (p : Fate → Bool) (xs : List (Result CompilationResult CompilationError)) → count_by p (map fate_of xs) ≡ count_by (λ x. p (fate_of x)) xs
count_by-map p xs = fold-map (λ n x. n + cond (p x) 1 0) 0 xs

pub returns : goal.returns
returns c =
    let fates = c.args.schema.now.fates in
    let v = c.validations-validations.result.now in
    let e : map fate_of v ≡ fates = c.validations-validations.ensures in
    let a : c.count-invalid.result ≡ count_by (λ x. is_invalid (fate_of x)) v = search rules in
    let b : c.count-ill.result ≡ count_by (λ x. is_ill (fate_of x)) v = search rules in
    let n : length v ≡ length fates = sym (length-map v fate_of) ∙ ap length e in
    let i = a ∙ (sym (count_by-map is_invalid v) ∙ ap (count_by is_invalid) e) in
    let l = b ∙ (sym (count_by-map is_ill v) ∙ ap (count_by is_ill) e) in
    search (rules, n, i, l)
