-- `other_chain` meets its contract: it is a chain's name, or not. Assumes nothing.
use mathlib.Core.Path.{sym, ◌∙◌}
use Rattle.iptables_lines.proofs.Behind.{is_passed, is_turned}
use Rattle.iptables_lines.proofs.other_chain.Goals as goal

pub returns-then-is_name : goal.returns-then-is_name
returns-then-is_name c = is_passed c.args.name.now (sym c.is_name.ensures ∙ c.if-is_name.true)

pub returns : goal.returns
returns c = is_turned c.args.name.now (sym c.is_name.ensures ∙ c.if-is_name.false)
