-- `read_full` stays within the place and ends: each turn reads at least one byte, so what is left of the place falls. Assumes nothing.
use Prim.Native.Nat.{◌≤◌, ◌-◌}
use lib.ListN.{length}
use Rattle.cases.proofs.read_full.Given as goal

abbrev pub invariant-loop-done : goal.invariant-loop-done
invariant-loop-done g l = l.done ≤ length l.place

abbrev pub decreases-loop-done : goal.decreases-loop-done
decreases-loop-done g l = length l.place - l.done
