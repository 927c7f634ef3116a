use Rattle.deployment.specs.Values.{numbers_of}
use Rattle.append_delete.proofs.DeletesAppends.{Deleting}
use Rattle.append_delete.proofs.send_deletes.Given as goal

abbrev pub invariant-loop-i : goal.invariant-loop-i
invariant-loop-i l = Deleting l.marks (numbers_of l.initial') l.initial.field l.field l.n l.i
