-- `with_digit` meets its contract: a number that is held has few digits, so that one more makes no overflow. Assumes nothing.
use Rattle.std.proofs.Common.{arith}
use Rattle.numerals.proofs.Numerals.{is_digit_lem}
use Rattle.numerals.specs.Found.{held}
use Rattle.numerals.proofs.with_digit.Goals as goal

pub overflow_sub-more : goal.overflow_sub-more
overflow_sub-more c = (is_digit_lem c.args.digit c.requires.1).0

pub returns : goal.returns
unfolding held
returns c = omega (arith, c.min.ensures)
