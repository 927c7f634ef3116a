-- `put_named` meets its contract: the word, then a blank and the number. Assumes nothing.
use Rattle.lines.proofs.Pieces.{puts_more}
use Rattle.lines.proofs.words.put_named.Goals as goal

pub returns : goal.returns
returns c = puts_more c.put_word-next.ensures c.put_spaced.ensures
