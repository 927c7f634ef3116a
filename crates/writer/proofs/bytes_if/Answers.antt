-- `writer::bytes_if` meets its contract: each way is the definition's own case. Assumes nothing.
use native.Mathlib.Omega.{arith}
use Rattle.deployment.specs.FieldValues.{lent}
use Rattle.writer.specs.Answers.{bytes_if}
use Rattle.writer.proofs.bytes_if.Goals as goal

pub overflow_add-result : goal.overflow_add-result
unfolding bytes_if lent
overflow_add-result c = omega (arith, rw c.in-Some.is at c.requires)

pub returns-in-Some : goal.returns-in-Some
unfolding bytes_if lent
returns-in-Some c = rw c.in-Some.is

pub returns-in-None : goal.returns-in-None
unfolding bytes_if lent
returns-in-None c = rw c.in-None.is
