-- `is_digit` meets its contract: its tests are those of the definition, in the same order. Assumes nothing.
use borrow.Author.Tests.{le-leb, lt-leb}
use Rattle.numerals.specs.Numerals.{is_digit}
use Rattle.numerals.proofs.is_digit.Goals as goal

pub returns-then-byte-ge-ZERO : goal.returns-then-byte-ge-ZERO
unfolding is_digit
returns-then-byte-ge-ZERO c = rw (le-leb 48 c.args.byte c.if-byte-ge-ZERO.true)

pub returns-else-byte-ge-ZERO : goal.returns-else-byte-ge-ZERO
unfolding is_digit
returns-else-byte-ge-ZERO c = rw (lt-leb 48 c.args.byte c.if-byte-ge-ZERO.false)
