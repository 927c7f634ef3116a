-- `count` is the length of the list that is shown: the smaller of `len` and 1,024. Assumes nothing.
use native.Mathlib.Omega.{arith}
use lib.ListN.{length-take}
use Rattle.running.specs.Running.{view}
use Rattle.running.proofs.Running.count.Goals as goal

pub returns : goal.returns
unfolding view
returns c = omega (arith, length-take c.args.self.len c.args.self.rules)
