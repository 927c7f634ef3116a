-- `texts::pageoriole_script_text` meets its contract: what the entry answers for the maker named, told. Assumes nothing.
use Rattle.pageoriole.specs.Answers.{write_outcome}
use Rattle.pageoriole.proofs.Telling.{leaves_of}
use Rattle.pageoriole.proofs.texts.pageoriole_script_text.Goals as goal

pub returns : goal.returns
returns c = leaves_of write_outcome (rw c.maker_of.ensures at c.script_text.ensures) c.tell_written.ensures
