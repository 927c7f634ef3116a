-- The measure of `put_number` is the number.
use Rattle.lines.proofs.words.+put_number.Given as goal

abbrev pub decreases-put_number : goal.decreases-put_number
decreases-put_number l = l.n
