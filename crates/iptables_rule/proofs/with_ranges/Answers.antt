-- `with_ranges` meets its contract: each byte is the remainder that the definition takes. Assumes nothing.
use mathlib.Core.Path.{refl}
use Rattle.deployment.specs.Bytes.{bytes_of}
use Rattle.deployment.specs.Values.{range_bytes}
use Rattle.iptables_rule.proofs.with_ranges.Goals as goal

pub returns : goal.returns
unfolding range_bytes bytes_of
returns c = refl
