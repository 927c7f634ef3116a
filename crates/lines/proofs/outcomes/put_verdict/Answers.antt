-- `put_verdict` meets its contract: the word, the numbers and the end of the line, one behind the other. Assumes nothing.
use Rattle.std.proofs.Common.{arith}
use Rattle.lines.specs.Text.{text, verdict_text}
use Rattle.lines.proofs.Lengths.{few_numbers, numbers_line_short}
use Rattle.lines.proofs.Pieces.{puts_more, puts_whole}
use Rattle.lines.proofs.outcomes.put_verdict.Goals as goal

pub returns : goal.returns
unfolding verdict_text text
returns c =
    puts_whole (puts_more c.put_word-next.ensures (puts_more c.put_values-next.ensures.put c.put_word.ensures))
    (numbers_line_short _ (omega (arith, c.put_values-next.ensures.short, few_numbers c.args.v))) (omega arith)
