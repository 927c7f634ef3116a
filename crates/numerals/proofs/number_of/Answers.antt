-- `number_of` meets its contract: no number stands first in the word, bytes are left behind it, or it is the whole word. Assumes nothing.
use mathlib.Core.Path.{◌∙◌}
use lib.ListN.{drop}
use Rattle.numerals.specs.Numerals.{numeral_read}
use Rattle.numerals.proofs.Numbers.{Stands, found_is, not_first, bytes_left, whole_word}
use Rattle.numerals.proofs.number_of.Goals as goal
use Rattle.numerals.proofs.number_of.Goals.{In_ok-number}

-- the number that stands first
first : (c : In_ok-number)
    → let word = c.args.word.now in
    Stands word (numeral_read (drop 0 word)) c.in_ok-number.number.value c.in_ok-number.number.end
first c = found_is _ _ _ (rw c.in_ok-number.was at c.number_at.ensures)

pub returns : goal.returns
returns c = whole_word c.args.word.now _ _ (first (goal.at.returns c).In_ok-number) c.if-number-word.false

pub returns-then-number-word : goal.returns-then-number-word
returns-then-number-word c = bytes_left c.args.word.now _ _ (first (goal.at.returns-then-number-word c).In_ok-number) c.if-number-word.true

pub returns-in_err-number : goal.returns-in_err-number
returns-in_err-number c = c.from_residual.ensures ∙ not_first c.args.word.now (rw c.in_err-number.was at c.number_at.ensures)
