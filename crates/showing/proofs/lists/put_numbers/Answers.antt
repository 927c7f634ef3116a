-- `put_numbers` meets its contract: nothing, or the first number, the others and the end of the line, one behind the other. Assumes nothing.
use native.Mathlib.Omega.{arith}
use Rattle.deployment.specs.Values.{numbers_of}
use Rattle.lines.specs.Text.{text}
use Rattle.lines.proofs.Pieces.{puts_more}
use Rattle.showing.proofs.NumberLines.{no_numbers, numbers_line}
use Rattle.showing.proofs.lists.put_numbers.Goals as goal

pub returns-then-listed-eq0 : goal.returns-then-listed-eq0
returns-then-listed-eq0 c =
    let args = c.args in
    no_numbers (numbers_of args.list.now) args.place.now args.at (omega (arith, c.listed.ensures, c.if-listed-eq0.true))

pub returns : goal.returns
unfolding text
returns c =
    let numbers = numbers_of c.args.list.now in
    rw (← numbers_line numbers (omega (arith, c.listed.ensures, c.if-listed-eq0.false)), ← c.number_at.ensures)
    (puts_more c.put_number-next.ensures (puts_more c.put_following-next.ensures c.put_sign.ensures))
