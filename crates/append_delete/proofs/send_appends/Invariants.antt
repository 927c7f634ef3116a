use Prim.Native.Nat.{◌-◌}
use Rattle.deployment.specs.Values.{numbers_of}
use Rattle.append_delete.proofs.DeletesAppends.{Appending}
use Rattle.append_delete.proofs.send_appends.Given as goal

abbrev pub invariant-loop-j : goal.invariant-loop-j
invariant-loop-j l = Appending (numbers_of l.target) l.kept l.before l.initial.field l.field l.n l.j

abbrev pub decreases-loop-j : goal.decreases-loop-j
decreases-loop-j l = l.wanted - l.j
