use Prim.Native.Nat.{◌≤◌, ◌-◌}
use lib.ListN.{length}
use Rattle.deployment.specs.Values.{numbers_of}
use Rattle.ordering.specs.Fronts.{stands, front}
use Rattle.ordering.proofs.front_part.Given as goal

abbrev pub invariant-loop-i : goal.invariant-loop-i
invariant-loop-i l = l.i ≤ front (stands l.places l.k) (numbers_of l.policy)

abbrev pub decreases-loop-i : goal.decreases-loop-i
decreases-loop-i l = length (numbers_of l.policy) - l.i
