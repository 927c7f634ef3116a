-- `put_list` meets its contract: the head with how many numbers there are, then the numbers. Assumes nothing.
use mathlib.Core.List.{◌++◌}
use Rattle.deployment.specs.Values.{numbers_of}
use Rattle.lines.specs.Text.{text, spaced}
use Rattle.rule_lines.proofs.Joined.{puts_joined}
use Rattle.showing.proofs.NumberLines.{list_behind}
use Rattle.showing.proofs.lists.put_list.Goals as goal

pub returns : goal.returns
returns c =
    let args = c.args in
    rw (list_behind args.word.now (numbers_of args.list.now), ← c.listed.ensures)
    (puts_joined (args.word.now ++ spaced c.listed.result) (text "\n") c.put_head-next.ensures c.put_numbers.ensures)
