-- `files::pageoriole_read` meets its contract: what the entry answers, told. Assumes nothing.
use Rattle.told.specs.Answers.{read_told}
use Rattle.told.proofs.Telling.{tells_of}
use Rattle.pageoriole.proofs.files.pageoriole_read.Goals as goal

pub returns : goal.returns
returns c = tells_of read_told c.read.ensures c.tell_read.ensures
