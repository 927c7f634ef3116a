use lib.ListN.{drop}
use Rattle.deployment.specs.Values.{numbers_of}
use Rattle.lines.specs.Text.{spaced_all}
use Rattle.lines.proofs.Lines.{Lines, following}
use Rattle.showing.proofs.lists.put_following.Given as goal

abbrev pub invariant-loop-k : goal.invariant-loop-k
invariant-loop-k l = Lines following 0 (numbers_of l.list) (spaced_all (drop 1 (numbers_of l.list))) l.initial.place l.at l.place l.next l.k
