-- `type_of` meets its contract: a script value that is read has a first byte. Assumes nothing.
use native.Mathlib.Omega.{arith}
use Rattle.showing.proofs.Scripts.{script_starts}
use Rattle.showing.proofs.lists.type_of.Goals as goal

pub bounds-script-0 : goal.bounds-script-0
bounds-script-0 c = omega (arith, script_starts c.args.script.now c.requires)
