-- `is_option` meets its contract: name by name, the answer so far or one test more. Assumes nothing.
use Rattle.std.proofs.Common.{arith}
use Rattle.std.proofs.lemmas.Grind.{common_steps}
use Rattle.lines.specs.Text.{text}
use Rattle.iptables.specs.Options.{is_option}
use Rattle.iptables_words.proofs.Same.{same_is}
use Rattle.iptables_rule.proofs.is_option.Goals as goal

pub returns-then-eq-6 : goal.returns-then-eq-6
unfolding is_option text
returns-then-eq-6 c = grind (arith, common_steps, same_is)

pub returns-else-eq-6 : goal.returns-else-eq-6
unfolding is_option text
returns-else-eq-6 c = grind (arith, common_steps, same_is)
