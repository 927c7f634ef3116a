-- `full` meets its contract: kind by kind, the bounds are the definition's. Assumes nothing.
use mathlib.Core.Path.{refl}
use Rattle.iptables.specs.Words.{full}
use Rattle.iptables_words.proofs.full.Goals as goal

pub returns-in-Protocol : goal.returns-in-Protocol
unfolding full
returns-in-Protocol c = rw c.in-Protocol.is refl

pub returns-in-Address : goal.returns-in-Address
unfolding full
returns-in-Address c = rw c.in-Address.is refl

pub returns-in-Port : goal.returns-in-Port
unfolding full
returns-in-Port c = rw c.in-Port.is refl
