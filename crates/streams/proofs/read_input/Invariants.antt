-- `read_input` ends and stays within the place. The invariant: the place keeps its length, and what was read lies within it. Each turn reads at least one
-- byte, so what is left of the place falls. Assumes nothing.
use Prim.Native.Nat.{◌≤◌, ◌-◌}
use mathlib.Core.Path.{◌≡◌}
use lib.ListN.{length}
use Rattle.streams.proofs.read_input.Given as goal

abbrev pub invariant-loop-done : goal.invariant-loop-done
invariant-loop-done g l = (l.done ≤ l.size) × (l.size ≡ length l.place)

abbrev pub decreases-loop-done : goal.decreases-loop-done
decreases-loop-done g l = l.size - l.done
