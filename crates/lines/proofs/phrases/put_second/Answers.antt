-- `put_second` meets its contract: nothing where there is no second number, or the word and the number. Assumes nothing.
use Rattle.deployment.specs.FieldValues.{lent}
use Rattle.lines.specs.Text.{second_text}
use Rattle.lines.proofs.Pieces.{puts_none, puts_more}
use Rattle.lines.proofs.phrases.put_second.Goals as goal

pub returns-in-None : goal.returns-in-None
unfolding second_text lent
returns-in-None c = rw c.in-None.is puts_none

pub returns-in-Some : goal.returns-in-Some
unfolding second_text lent
returns-in-Some c = rw c.in-Some.is (puts_more c.put_word-next.ensures c.put_number.ensures)
