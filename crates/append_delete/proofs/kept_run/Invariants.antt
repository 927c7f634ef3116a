use Prim.Native.Nat.{◌-◌, ◌≤◌}
use mathlib.Core.Path.{◌≡◌}
use lib.ListN.{length}
use Rattle.deployment.specs.Values.{numbers_of}
use Rattle.append_delete.proofs.DeletesAppends.{Found}
use Rattle.append_delete.proofs.kept_run.Given as goal

abbrev pub invariant-loop-i : goal.invariant-loop-i
invariant-loop-i l =
    (l.i ≤ l.rules) × (l.rules ≡ length (numbers_of l.initial')) × (l.wanted ≡ length (numbers_of l.target)) × Found (numbers_of l.initial') (numbers_of l.target) l.kept l.i

abbrev pub decreases-loop-i : goal.decreases-loop-i
decreases-loop-i l = l.rules - l.i
