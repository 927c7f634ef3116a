-- `no_record` meets its contract: the record of a rule whose numbers are all 0. Assumes nothing.
use Rattle.iptables_rule.specs.Found.{no_rule}
use Rattle.iptables_rule.proofs.no_record.Goals as goal

pub returns : goal.returns
unfolding no_rule
returns c = c.record_of.ensures
