-- `put_spaced` meets its contract: a blank, then the number. Assumes nothing.
use Rattle.lines.specs.Text.{text, spaced}
use Rattle.lines.proofs.Pieces.{puts_more}
use Rattle.lines.proofs.words.put_spaced.Goals as goal

pub returns : goal.returns
unfolding spaced text
returns c = puts_more c.put_word-next.ensures c.put_number.ensures
