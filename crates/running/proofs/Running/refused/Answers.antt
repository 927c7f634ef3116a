-- `refused` shows the list as it stands and the fault. Assumes nothing.
use mathlib.Core.Path.{refl}
use Rattle.running.specs.Running.{shown, given}
use Rattle.running.proofs.Running.refused.Goals as goal

pub returns : goal.returns
unfolding shown given
returns c = refl
