-- `given` meets its contract, whether the bytes are there or not. Assumes nothing.
use Rattle.deployment.specs.FieldValues.{lent}
use Rattle.cases.proofs.given.Goals as goal

pub returns-then-is : goal.returns-then-is
unfolding lent
returns-then-is c = rw c.if-is.true

pub returns-else-is : goal.returns-else-is
unfolding lent
returns-else-is c = rw c.if-is.false
