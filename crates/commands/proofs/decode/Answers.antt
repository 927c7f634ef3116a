-- `decode` meets its contract: the type's test, then the command of the code. Assumes nothing.
use mathlib.Core.Path.{sym, ◌∙◌}
use Rattle.deployment.specs.Values.{command_from}
use Rattle.deployment.specs.Commands.{decoded}
use Rattle.commands.proofs.decode.Goals as goal

pub returns-then-not-allows : goal.returns-then-not-allows
unfolding command_from decoded
returns-then-not-allows c = rw (sym c.allows.ensures ∙ c.if-not-allows.true)

pub returns : goal.returns
unfolding command_from
returns c = rw (sym c.allows.ensures ∙ c.if-not-allows.false) c.command_of.ensures
