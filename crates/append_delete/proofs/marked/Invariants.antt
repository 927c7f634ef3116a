use Prim.Native.Nat.{◌-◌, ◌≤◌}
use mathlib.Core.Path.{◌≡◌}
use lib.ListN.{length, take}
use Rattle.deployment.specs.Values.{numbers_of}
use Rattle.plans.specs.Marked.{Marked}
use Rattle.append_delete.proofs.marked.Given as goal

abbrev pub invariant-loop-i : goal.invariant-loop-i
invariant-loop-i l =
    (l.i ≤ l.count) × (l.count ≤ length (numbers_of l.list)) × (length l.marks ≡ 1024) × Marked l.marks (take l.i (numbers_of l.list))

abbrev pub decreases-loop-i : goal.decreases-loop-i
decreases-loop-i l = l.count - l.i
