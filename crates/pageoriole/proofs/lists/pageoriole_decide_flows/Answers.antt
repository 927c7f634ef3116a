-- `lists::pageoriole_decide_flows` meets its contract: what the entry answers, told. Assumes nothing.
use Rattle.pageoriole.specs.Answers.{write_outcome}
use Rattle.pageoriole.proofs.Telling.{leaves_of}
use Rattle.pageoriole.proofs.lists.pageoriole_decide_flows.Goals as goal

pub returns : goal.returns
returns c = leaves_of write_outcome (rw c.given.ensures at c.decide_flows.ensures) c.tell_written.ensures
