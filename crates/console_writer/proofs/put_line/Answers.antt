-- `put_line` meets its contract: the command in the words of the maker, and the line feed behind it. Assumes nothing.
use Rattle.lines.specs.Text.{text}
use Rattle.lines.proofs.Pieces.{puts_more}
use Rattle.console_text.specs.Text.{line_of}
use Rattle.console_writer.proofs.put_line.Goals as goal

pub returns : goal.returns
unfolding line_of text
returns c = puts_more c.put_command-next.ensures c.put_word.ensures
