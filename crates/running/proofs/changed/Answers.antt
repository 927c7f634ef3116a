-- `changed` shows the new list and no refusal. Assumes nothing.
use mathlib.Core.Path.{refl}
use Rattle.running.specs.Running.{view, shown, given}
use Rattle.running.proofs.changed.Goals as goal

pub returns : goal.returns
unfolding view shown given
returns c = refl
