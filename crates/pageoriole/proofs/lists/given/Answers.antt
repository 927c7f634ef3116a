-- `lists::given` meets its contract, whether the value is there or not. Assumes nothing.
use Rattle.deployment.specs.FieldValues.{lent}
use Rattle.values.specs.Answers.{given}
use Rattle.pageoriole.proofs.lists.given.Goals as goal

pub returns-then-is : goal.returns-then-is
unfolding lent given
returns-then-is c = rw c.if-is.true

pub returns-else-is : goal.returns-else-is
unfolding lent given
returns-else-is c = rw c.if-is.false
