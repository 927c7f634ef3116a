use Prim.Native.Nat.{◌-◌}
use lib.ListN.{length}
use Rattle.iptables_words.proofs.Pieces.{Ahead}
use Rattle.iptables_words.proofs.cut.Given as goal

abbrev pub invariant-loop-end : goal.invariant-loop-end
invariant-loop-end l = Ahead l.by l.bytes l.at l.end

abbrev pub decreases-loop-end : goal.decreases-loop-end
decreases-loop-end l = length l.bytes - l.end
