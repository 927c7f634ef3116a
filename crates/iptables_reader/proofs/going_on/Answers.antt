-- `going_on` meets its contract: by computing. Assumes nothing.
use mathlib.Core.Path.{refl}
use Rattle.iptables_reader.specs.Gathering.{going_on}
use Rattle.iptables_reader.proofs.going_on.Goals as goal

pub returns : goal.returns
unfolding going_on
returns c = refl
