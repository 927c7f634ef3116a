-- `put_line` meets its contract: the step, a blank, the command and the end of the line, one behind the other. Maker A's words are document
-- 01's. Assumes nothing.
use Rattle.console.proofs.Words.{said_by_a}
use Rattle.lines.specs.Text.{text, line_text}
use Rattle.lines.proofs.Pieces.{puts_more}
use Rattle.lines.proofs.steps.put_line.Goals as goal

pub returns : goal.returns
unfolding line_text text
returns c =
    puts_more c.put_number-next.ensures
    (puts_more c.put_word-next.ensures
    (puts_more (rw said_by_a at c.put_command-next.ensures) c.put_word.ensures))
