use Prim.Native.Nat.{◌-◌}
use lib.ListN.{length}
use Rattle.numerals.proofs.Counting.{Counts}
use Rattle.numerals.proofs.digits_from.Given as goal

abbrev pub invariant-loop-end : goal.invariant-loop-end
invariant-loop-end l = Counts l.n l.at l.text l.value l.end

abbrev pub decreases-loop-end : goal.decreases-loop-end
decreases-loop-end l = length l.text - l.end
