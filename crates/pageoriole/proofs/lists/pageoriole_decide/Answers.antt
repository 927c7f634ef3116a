-- `lists::pageoriole_decide` meets its contract: what the entry answers, told. Assumes nothing.
use Rattle.told.specs.Answers.{decided_told}
use Rattle.told.proofs.Telling.{tells_of}
use Rattle.pageoriole.proofs.lists.pageoriole_decide.Goals as goal

pub returns : goal.returns
returns c = tells_of decided_told (rw c.given.ensures at c.decide.ensures) c.tell_decided.ensures
