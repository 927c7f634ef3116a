use Prim.Native.Nat.{◌-◌}
use lib.ListN.{length}
use Rattle.console_reader.proofs.Gathering.{Gathered}
use Rattle.console_reader.proofs.put_commands.Given as goal

abbrev pub invariant-loop-at : goal.invariant-loop-at
invariant-loop-at l = Gathered l.maker l.kind l.text l.initial.place l.place l.at l.n

abbrev pub decreases-loop-at : goal.decreases-loop-at
decreases-loop-at l = length l.text - l.at
