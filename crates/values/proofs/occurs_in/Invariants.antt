use Prim.Native.Nat.{◌≤◌}
use mathlib.Core.Path.{◌≡◌}
use lib.ListN.{drop}
use Rattle.policy.specs.Lists.{occurs}
use Rattle.deployment.specs.Values.{numbers_of}
use Rattle.values.proofs.occurs_in.Given as goal

abbrev pub invariant-loop-k : goal.invariant-loop-k
invariant-loop-k l =
    (l.found ≤ l.count) × (occurs (numbers_of l.keep) (numbers_of l.list) ≡ occurs (drop l.found (numbers_of l.keep)) (drop l.k (numbers_of l.list)))
