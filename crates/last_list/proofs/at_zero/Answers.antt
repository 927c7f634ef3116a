-- `at_zero` is the definition: what is turned away stands at position 0. Assumes nothing.
use Rattle.last_list.specs.Last.{at_zero}
use Rattle.last_list.proofs.at_zero.Goals as goal

pub returns-in-Broken : goal.returns-in-Broken
unfolding at_zero
returns-in-Broken c = rw c.in-Broken.is

pub returns-in-Turned : goal.returns-in-Turned
unfolding at_zero
returns-in-Turned c = rw (c.into.ensures, c.in-Turned.is)
