-- `lists::pageoriole_replay` meets its contract: what the entry answers, told. Assumes nothing.
use Rattle.pageoriole.specs.Answers.{replay_outcome}
use Rattle.pageoriole.proofs.Telling.{leaves_of}
use Rattle.pageoriole.proofs.lists.pageoriole_replay.Goals as goal

pub returns : goal.returns
returns c = leaves_of replay_outcome (rw c.given.ensures at c.replay.ensures) c.tell_ran.ensures
