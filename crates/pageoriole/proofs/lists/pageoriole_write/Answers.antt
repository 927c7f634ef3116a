-- `lists::pageoriole_write` meets its contract: what the entry answers, told. Assumes nothing.
use Rattle.pageoriole.specs.Answers.{write_outcome}
use Rattle.pageoriole.proofs.Telling.{leaves_of}
use Rattle.pageoriole.proofs.lists.pageoriole_write.Goals as goal

pub returns : goal.returns
returns c = leaves_of write_outcome (rw c.values-values.ensures at c.write.ensures) c.tell_written.ensures
