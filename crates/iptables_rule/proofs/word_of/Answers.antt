-- `word_of` meets its contract: the part of the line that it is. Assumes nothing.
use mathlib.Core.Path.{refl}
use Rattle.deployment.specs.Bytes.{part}
use Rattle.iptables_rule.proofs.word_of.Goals as goal

pub returns : goal.returns
unfolding part
returns c = refl
