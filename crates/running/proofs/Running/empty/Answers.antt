-- `empty` shows no rule. Assumes nothing.
use mathlib.Core.Path.{refl}
use Rattle.running.specs.Running.{view}
use Rattle.running.proofs.Running.empty.Goals as goal

pub returns : goal.returns
unfolding view
returns c = refl
