use mathlib.Core.Path.{◌≡◌}
use lib.ListN.{drop}
use Rattle.policy.specs.Lists.{same}
use Rattle.deployment.specs.Values.{numbers_of}
use Rattle.judge.proofs.ends_at.Given as goal

abbrev pub invariant-loop-k : goal.invariant-loop-k
invariant-loop-k l = same l.r-items (numbers_of l.policy) ≡ same (drop l.k l.r-items) (drop l.k (numbers_of l.policy))
