-- `put_script` meets its contract: by whether there is a script. Assumes nothing.
use mathlib.Core.Path.{refl}
use Rattle.deployment.specs.FieldValues.{lent}
use Rattle.lines.specs.Text.{text}
use Rattle.showing.specs.Text.{script_given, script_text}
use Rattle.showing.proofs.lists.put_script.Goals as goal

pub put_commands-requires : goal.put_commands-requires
unfolding lent
put_commands-requires c = c.requires _ (rw c.in-Some.is refl)

pub returns-in-Some : goal.returns-in-Some
unfolding script_given lent
returns-in-Some c = rw c.in-Some.is c.put_commands.ensures

pub returns-in-None : goal.returns-in-None
unfolding text script_text script_given lent
returns-in-None c = rw c.in-None.is c.put_word.ensures
