-- `put_head` meets its contract: the word and the number, then the end of the line. Assumes nothing.
use Rattle.lines.specs.Text.{text}
use Rattle.lines.proofs.Pieces.{puts_more}
use Rattle.rule_lines.proofs.heads.put_head.Goals as goal

pub returns : goal.returns
unfolding text
returns c = puts_more c.put_named-next.ensures c.put_sign.ensures
