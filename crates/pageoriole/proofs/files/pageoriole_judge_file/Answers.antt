-- `files::pageoriole_judge_file` meets its contract: what the entry answers, told. Assumes nothing.
use Rattle.told.specs.Answers.{judged_told}
use Rattle.told.proofs.Telling.{tells_of}
use Rattle.pageoriole.proofs.files.pageoriole_judge_file.Goals as goal

pub returns : goal.returns
returns c = tells_of judged_told c.judge.ensures c.tell_judged.ensures
