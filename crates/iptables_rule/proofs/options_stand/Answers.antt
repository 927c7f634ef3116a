-- `options_stand` meets its contract: test by test, as the definition goes. Assumes nothing.
use Rattle.std.proofs.Common.{arith}
use Rattle.std.proofs.lemmas.Grind.{common_steps}
use Rattle.lines.specs.Text.{text}
use Rattle.iptables_rule.proofs.options_stand.Goals as goal

pub returns-then-port_fits-2 : goal.returns-then-port_fits-2
unfolding text
returns-then-port_fits-2 c = grind (arith, common_steps)

pub returns-else-port_fits-2 : goal.returns-else-port_fits-2
unfolding text
returns-else-port_fits-2 c = grind (arith, common_steps)
