-- `put_head` meets its contract: word by word, each with its number, one behind the other. Assumes nothing.
use Rattle.lines.specs.Text.{text, named, head_text}
use Rattle.lines.proofs.Pieces.{puts_more}
use Rattle.lines.proofs.blocks.put_head.Goals as goal

pub returns : goal.returns
unfolding head_text named text
returns c =
    puts_more c.put_named-next.ensures
    (puts_more c.put_named-next-2.ensures
    (puts_more c.put_named-next-3.ensures
    (puts_more c.put_named-next-4.ensures
    (puts_more c.put_named-next-5.ensures
    c.put_word.ensures))))
