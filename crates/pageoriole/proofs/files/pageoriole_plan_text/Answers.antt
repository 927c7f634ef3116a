-- `files::pageoriole_plan_text` meets its contract: what the entry answers, told. Assumes nothing.
use Rattle.pageoriole.specs.Answers.{write_outcome}
use Rattle.pageoriole.proofs.Telling.{leaves_of}
use Rattle.pageoriole.proofs.files.pageoriole_plan_text.Goals as goal

pub returns : goal.returns
returns c = leaves_of write_outcome c.plan_text.ensures c.tell_written.ensures
