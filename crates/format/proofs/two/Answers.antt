-- `two` meets its contract: the number of the two bytes. Assumes nothing.
use native.Mathlib.Omega.{arith}
use Rattle.deployment.specs.Bytes.{number_from, number}
use Rattle.format.proofs.two.Goals as goal

pub overflow_cast-result : goal.overflow_cast-result
unfolding number number_from
overflow_cast-result c = omega (arith, c.number_of.ensures)

pub returns : goal.returns
returns c = c.number_of.ensures
