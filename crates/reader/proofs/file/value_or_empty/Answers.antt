-- `value_or_empty` meets its contract: each way is the definition's own case. Assumes nothing.
use Rattle.reader.specs.Answers.{value_or_empty}
use Rattle.reader.proofs.file.value_or_empty.Goals as goal

pub returns-in-Some : goal.returns-in-Some
unfolding value_or_empty
returns-in-Some c = rw c.in-Some.is c.value.ensures

pub returns-in-None : goal.returns-in-None
unfolding value_or_empty
returns-in-None c = rw c.in-None.is
