-- `is_name` meets its contract: there is no byte, or all bytes are tested. Assumes nothing.
use mathlib.Core.Path.{sym, ◌∙◌}
use Rattle.iptables_lines.proofs.Names.{no_name, name_plain}
use Rattle.iptables_lines.proofs.is_name.Goals as goal

pub returns-then-name-ne0 : goal.returns-then-name-ne0
returns-then-name-ne0 c = c.are_plain.ensures ∙ name_plain c.args.name.now c.if-name-ne0.true

pub returns-else-name-ne0 : goal.returns-else-name-ne0
returns-else-name-ne0 c = rw c.if-name-ne0.false (sym (no_name c.args.name.now c.if-name-ne0.false))
