use Prim.Native.Nat.{ℕ}
use mathlib.Core.List.{List}
use Rattle.policy.specs.Policy.{under, decide, matching}
use Rattle.policy.specs.declared.Action.{Action}
use Rattle.policy.specs.declared.Decision.{Decision}
use Rattle.policy.specs.declared.Flow.{Flow}
use Rattle.deployment.specs.Values.{numbers_of}
use Rattle.deployment.specs.Catalogue.{catalogue_of}
use Rattle.flows.proofs.ManyFlows.{Put}
use Rattle.flows.proofs.put_decisions.Given as goal

-- what decides a flow
abbrev pub decides : List ℕ → ℕ → List ℕ → Action → Flow → Decision
decides rules skip policy default flow = decide (matching (catalogue_of skip rules) flow) (under default (numbers_of policy))

abbrev pub invariant-loop-k : goal.invariant-loop-k
invariant-loop-k l = Put (decides l.rules l.skip l.policy l.default) l.flows l.initial.place l.place l.k
