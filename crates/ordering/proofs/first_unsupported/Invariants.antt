use Prim.Native.Nat.{suc, ◌+◌, ◌≤◌, ◌-◌}
use mathlib.Core.Path.{◌≡◌}
use lib.ListN.{length, drop}
use Rattle.policy.specs.Judge.{supported, first_failing, first_unsupported}
use Rattle.deployment.specs.Values.{numbers_of}
use Rattle.ordering.specs.Fronts.{stands, front}
use Rattle.ordering.proofs.first_unsupported.Given as goal

abbrev pub invariant-loop-next_a : goal.invariant-loop-next_a
invariant-loop-next_a l =
    (l.a ≤ front (stands l.places l.k) (numbers_of l.initial')) × (l.b ≤ front (stands l.places l.k) (numbers_of l.target))

abbrev pub decreases-loop-next_a : goal.decreases-loop-next_a
decreases-loop-next_a l = (length (numbers_of l.initial') - l.a) + (length (numbers_of l.target) - l.b)

abbrev pub invariant-places : goal.invariant-places
invariant-places l =
    (l.k ≤ length l.list)
    × (first_unsupported (numbers_of l.initial') (numbers_of l.target) l.list
    ≡ first_failing (supported (numbers_of l.initial') (numbers_of l.target) l.list) (suc l.k) (drop l.k l.list))

abbrev pub decreases-places : goal.decreases-places
decreases-places l = length l.list - l.k
