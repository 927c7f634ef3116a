use Prim.Native.Nat.{◌-◌}
use lib.ListN.{length}
use Rattle.iptables_reader.proofs.Gathering.{LinesSeen}
use Rattle.iptables_reader.proofs.gather.Given as goal

abbrev pub invariant-loop-end : goal.invariant-loop-end
invariant-loop-end l =
    LinesSeen l.listing l.marks l.starts l.seen l.number l.start l.end

abbrev pub decreases-loop-end : goal.decreases-loop-end
decreases-loop-end l = length l.listing - l.start
