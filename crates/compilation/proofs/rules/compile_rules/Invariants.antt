use Rattle.std.proofs.Common.{◌≡◌, [], map, length, drop}
use Rattle.compilation.specs.Compiled.{fate_of}
use Rattle.compilation.specs.Fates.{all_fated}
use Rattle.compilation.proofs.rules.compile_rules.Given as goal

abbrev pub invariant-loop-entry : goal.invariant-loop-entry
invariant-loop-entry g l =
    (g.H.RuleHost.meaning l.host ≡ g.H.RuleHost.meaning l.initial.host)
    × (all_fated (g.H.RuleHost.meaning l.initial.host) l.text l.rules [] (g.H.RuleHost.accepted l.initial.host) ≡ all_fated (g.H.RuleHost.meaning l.initial.host) l.text (drop l.entry-index l.rules) (map fate_of l.validations) (g.H.RuleHost.accepted l.host))
    × (length l.validations ≡ l.entry-index)
