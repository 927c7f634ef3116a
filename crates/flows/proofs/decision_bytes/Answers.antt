-- `decision_bytes` meets its contract: each byte is the remainder that the definition takes. Assumes nothing.
use Rattle.deployment.specs.Bytes.{bytes_of}
use Rattle.deployment.specs.Flows.{decision_bytes}
use Rattle.flows.proofs.ManyFlows.{action_is_byte}
use Rattle.flows.proofs.decision_bytes.Goals as goal

pub returns : goal.returns
unfolding decision_bytes bytes_of
returns c = rw (c.into.ensures, action_is_byte)
