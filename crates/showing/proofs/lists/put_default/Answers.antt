-- `put_default` meets its contract: by whether there is a default. Assumes nothing.
use Rattle.lines.specs.Text.{text}
use Rattle.showing.specs.Text.{default_text}
use Rattle.showing.proofs.lists.put_default.Goals as goal

pub returns-then-has : goal.returns-then-has
unfolding text default_text
returns-then-has c = rw c.if-has.true c.put_word.ensures

pub returns : goal.returns
unfolding text default_text
returns c = rw c.if-has.false c.put_word-2.ensures
