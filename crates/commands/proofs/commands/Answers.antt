-- `commands` meets its contract, also where there is no type byte. Assumes nothing.
use Rattle.deployment.specs.Commands.{command_count}
use Rattle.commands.proofs.commands.Goals as goal

pub returns : goal.returns
unfolding command_count
returns c = rw c.saturating_sub.ensures
