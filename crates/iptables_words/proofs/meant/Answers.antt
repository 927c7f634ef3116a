-- `meant` meets its contract: kind by kind, what is called tells what the definition says. Assumes nothing.
use Rattle.iptables.specs.Words.{meant}
use Rattle.iptables_words.proofs.meant.Goals as goal

pub returns-in-Protocol : goal.returns-in-Protocol
unfolding meant
returns-in-Protocol c = rw c.in-Protocol.is c.protocol_of.ensures

pub returns-in-Address : goal.returns-in-Address
unfolding meant
returns-in-Address c = rw c.in-Address.is c.address_of.ensures

pub returns-in-Port : goal.returns-in-Port
unfolding meant
returns-in-Port c = rw c.in-Port.is c.ports_of.ensures
