-- `in_range` is the test of the definitions. Assumes nothing.
use borrow.Author.Rules.{rules}
use Rattle.policy.specs.Command.{within}
use Rattle.running.proofs.in_range.Goals as goal

pub returns : goal.returns
unfolding within
returns c = search rules
