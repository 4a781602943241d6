-- Loading a schema with a host: steps in loading order, up to the first for which there is no room.
use Rattle.std.specs.Prelude.{ℕ, ◌+◌, cond, List, [], ◌∷◌, ◌++◌, length, Some, None, Option, nat_lt}
use Rattle.compilation.specs.Fates.{Fate, either, fated}
use Rattle.compilation.specs.declared.fault.LoadFault.{LoadFault}
use Rattle.compilation.specs.declared.fault.LoadFault.TheVariants.{ProgramsFull, RulesFull, TreeFull}
use Rattle.rule_host.specs.Meaning.{Meaning}
use Rattle.schema.specs.Laws.{rule_said}
use Rattle.schema_tree.specs.Steps.{Step, node, rule}

-- the fates of the rules, the host's list, and the first step for which there was no room
pub record Outcome : Type 0 where
  pub fates : List Fate
  pub accepted : List (List ℕ)
  pub fault : Option LoadFault

-- loading goes on with these steps where n nodes were loaded and the fates of some rules are known. There is room for 512 nodes, for 256 rules, invalid
-- ones counted, and for what the host's list takes
unfoldable pub loading : Meaning → List ℕ → List Step → ℕ → List Fate → List (List ℕ) → Outcome
loading m t [] n known acc = record { fates = known; accepted = acc; fault = None }
loading m t (node place ∷ more) n known acc =
    cond (nat_lt n 512) (loading m t more (n + 1) known acc) (record { fates = known; accepted = acc; fault = Some (TreeFull place) })
loading m t (rule r ∷ more) n known acc =
    cond (nat_lt (length known) 256)
    (either (fated m acc (rule_said t r.rule)).fate
    (λ f. loading m t more n (known ++ f ∷ []) (fated m acc (rule_said t r.rule)).accepted)
    (record { fates = known; accepted = (fated m acc (rule_said t r.rule)).accepted; fault = Some (ProgramsFull r.place) }))
    (record { fates = known; accepted = acc; fault = Some (RulesFull r.place) })
