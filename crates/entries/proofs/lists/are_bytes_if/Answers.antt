-- `are_bytes_if` meets its contract, whether the value is there or not. Assumes nothing.
use Rattle.deployment.specs.FieldValues.{lent}
use Rattle.entries.proofs.lists.are_bytes_if.Goals as goal

pub returns-in-Some : goal.returns-in-Some
unfolding lent
returns-in-Some c = rw c.in-Some.is c.are_bytes.ensures

pub returns-in_default : goal.returns-in_default
unfolding lent
returns-in_default c = rw c.in_default.is tt
