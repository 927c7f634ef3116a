use Rattle.policy.specs.Policy.{under, matching}
use Rattle.deployment.specs.Values.{numbers_of}
use Rattle.deployment.specs.Catalogue.{catalogue_of}
use Rattle.decision.proofs.FirstMatch.{Passed}
use Rattle.decision.proofs.decided.Given as goal

abbrev pub invariant-loop-k : goal.invariant-loop-k
invariant-loop-k l = Passed (matching (catalogue_of l.skip l.rules) l.flow) (under l.default (numbers_of l.list)) l.k
