-- `put_labelled` meets its contract: the label, then the range. Assumes nothing.
use Rattle.lines.proofs.Pieces.{puts_more}
use Rattle.rule_lines.proofs.ranges.put_labelled.Goals as goal

pub returns : goal.returns
returns c = puts_more c.put_word-next.ensures c.put_range.ensures
