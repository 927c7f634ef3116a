-- `record_of` meets its contract: the action's number is a byte, and the ranges stand behind it. Assumes nothing.
use mathlib.Core.Path.{refl}
use Rattle.deployment.specs.Bytes.{bytes_of}
use Rattle.deployment.specs.Values.{rule_bytes}
use Rattle.flows.proofs.ManyFlows.{action_is_byte}
use Rattle.iptables_rule.proofs.record_of.Goals as goal

pub returns : goal.returns
unfolding rule_bytes bytes_of
returns c = rw (c.with_ranges.ensures, c.into.ensures, action_is_byte) refl
