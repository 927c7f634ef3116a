use Rattle.last_list.proofs.LastList.{Put}
use Rattle.last_list.proofs.put_list.Given as goal

abbrev pub invariant-loop-k : goal.invariant-loop-k
invariant-loop-k l = Put l.initial.place l.r-items l.place l.k
