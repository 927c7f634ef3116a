use Prim.Native.Nat.{ℕ}
use mathlib.Core.Path.{◌≡◌}
use mathlib.Core.List.{List}
use lib.ListN.{take, drop}
use Rattle.policy.specs.Rule.{Rule}
use Rattle.deployment.specs.Values.{rule_of, known}
use Rattle.deployment.specs.Catalogue.{catalogue_of}
use Rattle.catalogue.proofs.rule.is_known.Given as goal

-- the rules that are compared
abbrev pub among : ℕ → ℕ → List ℕ → List Rule
among skip count rules = take count (catalogue_of skip rules)

abbrev pub invariant-loop-k : goal.invariant-loop-k
invariant-loop-k l = known (rule_of l.rule) (among l.skip l.count l.rules) ≡ known (rule_of l.rule) (drop l.k (among l.skip l.count l.rules))
