-- `listings::pageoriole_from_iptables` meets its contract: what the entry answers, told. Assumes nothing.
use Rattle.pageoriole.specs.Answers.{write_outcome}
use Rattle.pageoriole.proofs.Telling.{leaves_of}
use Rattle.pageoriole.proofs.listings.pageoriole_from_iptables.Goals as goal

pub returns : goal.returns
returns c = leaves_of write_outcome c.from_iptables.ensures c.tell_written.ensures
