-- `put_refused` meets its contract: the word and the number, the position and the end of the line, one behind the other. Assumes nothing.
use Rattle.std.proofs.Common.{arith}
use Rattle.lines.specs.Text.{text, named, refused_text}
use Rattle.lines.proofs.Lengths.{refused_short}
use Rattle.lines.proofs.Pieces.{puts_more, puts_whole}
use Rattle.lines.proofs.outcomes.put_refused.Goals as goal

pub returns : goal.returns
unfolding refused_text named text
returns c =
    rw (← c.from-number.ensures)
    (puts_whole (puts_more c.put_named-next.ensures (puts_more c.put_named-next-2.ensures c.put_word.ensures))
    (rw c.from-number.ensures (omega (arith, refused_short c.args.refusal (omega (arith, c.well_formed.1.0.1.1.1.0.1)))))
    (omega arith))
