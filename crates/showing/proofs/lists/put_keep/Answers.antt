-- `put_keep` meets its contract: by whether there is a keep list. Assumes nothing.
use Rattle.deployment.specs.FieldValues.{lent}
use Rattle.lines.specs.Text.{text}
use Rattle.showing.specs.Text.{numbers_given, keep_text}
use Rattle.showing.proofs.lists.put_keep.Goals as goal

pub returns-in-Some : goal.returns-in-Some
unfolding text keep_text numbers_given lent
returns-in-Some c = rw c.in-Some.is c.put_list.ensures

pub returns-in-None : goal.returns-in-None
unfolding text keep_text numbers_given lent
returns-in-None c = rw c.in-None.is c.put_word.ensures
