use Prim.Native.Nat.{◌-◌}
use lib.ListN.{length}
use Rattle.iptables_rule.proofs.Looking.{Looking}
use Rattle.iptables_rule.proofs.option.Given as goal

abbrev pub invariant-loop-end : goal.invariant-loop-end
invariant-loop-end l = Looking l.line l.at l.name l.found l.end

abbrev pub decreases-loop-end : goal.decreases-loop-end
decreases-loop-end l = length l.line - l.end
