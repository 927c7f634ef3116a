-- `put_number` meets its contract: the digits of the tenth part, then the last digit. Assumes nothing.
use Rattle.lines.proofs.Digits.{decimal_one, decimal_more}
use Rattle.lines.proofs.Pieces.{puts_more}
use Rattle.lines.proofs.words.+put_number.Goals as goal

pub returns-then-n-lt-TEN : goal.returns-then-n-lt-TEN
returns-then-n-lt-TEN t c = rw (decimal_one c.args.n c.if-n-lt-TEN.true) c.put_digit.ensures

pub returns : goal.returns
returns t c =
    rw (decimal_more c.args.n c.if-n-lt-TEN.false)
    (puts_more c.put_number-next.ensures c.put_digit-2.ensures)
