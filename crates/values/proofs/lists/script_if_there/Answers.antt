-- `script_if_there` meets its contract: a script that is there is tested, and an absent one passes. Assumes nothing.
use Rattle.deployment.specs.FieldValues.{lent, script_value}
use Rattle.catalogue.specs.Answers.{checking}
use Rattle.values.proofs.lists.script_if_there.Goals as goal

pub returns-in-Some : goal.returns-in-Some
unfolding lent
returns-in-Some c = rw c.in-Some.is c.script_checked.ensures

pub returns-in-None : goal.returns-in-None
unfolding checking lent script_value
returns-in-None c = rw c.in-None.is
