-- `lists::pageoriole_check` meets its contract: what the entry answers, told. Assumes nothing.
use Rattle.told.specs.Answers.{checked_told}
use Rattle.told.proofs.Telling.{tells_of}
use Rattle.pageoriole.proofs.lists.pageoriole_check.Goals as goal

pub returns : goal.returns
returns c = tells_of checked_told (rw c.values-values.ensures at c.values_checked.ensures) c.tell_checked.ensures
