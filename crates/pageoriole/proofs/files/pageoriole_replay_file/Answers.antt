-- `files::pageoriole_replay_file` meets its contract: what the entry answers, told. Assumes nothing.
use Rattle.pageoriole.specs.Answers.{replay_outcome}
use Rattle.pageoriole.proofs.Telling.{leaves_of}
use Rattle.pageoriole.proofs.files.pageoriole_replay_file.Goals as goal

pub returns : goal.returns
returns c = leaves_of replay_outcome c.replay.ensures c.tell_ran.ensures
