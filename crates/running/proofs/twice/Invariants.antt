use lib.ListN.{take}
use Rattle.running.proofs.Names.{Seen}
use Rattle.running.proofs.twice.Given as goal

abbrev pub invariant-loop-r : goal.invariant-loop-r
invariant-loop-r l = Seen l.seen l.r-iterator.iter.rest.now (take l.fn.len l.fn.rules)
