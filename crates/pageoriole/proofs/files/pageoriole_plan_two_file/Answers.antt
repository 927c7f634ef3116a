-- `files::pageoriole_plan_two_file` meets its contract: what the entry answers, told. Assumes nothing.
use Rattle.pageoriole.specs.Answers.{plan_outcome}
use Rattle.pageoriole.proofs.Telling.{leaves_of}
use Rattle.pageoriole.proofs.files.pageoriole_plan_two_file.Goals as goal

pub returns : goal.returns
returns c = leaves_of plan_outcome c.plan_two.ensures c.tell_planned.ensures
