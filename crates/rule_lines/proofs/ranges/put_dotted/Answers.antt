-- `put_dotted` meets its contract: the byte, then the dot. Assumes nothing.
use Rattle.lines.specs.Text.{text}
use Rattle.lines.proofs.Pieces.{puts_more}
use Rattle.rule_lines.proofs.ranges.put_dotted.Goals as goal

pub returns : goal.returns
unfolding text
returns c = puts_more c.put_number-next.ensures c.put_sign.ensures
