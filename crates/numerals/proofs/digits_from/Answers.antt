-- `digits_from` meets its contract. The loop's invariant: the digits up to `end` are counted in, and of the number that they make `value` is held.
-- The measure is how many bytes are left. Assumes nothing.
use mathlib.Core.Path.{sym, ◌∙◌}
use Rattle.numerals.proofs.Counting.{counts_none, counts_more, counted_to_end, counted_to_other, counts_bound}
use Rattle.numerals.proofs.digits_from.Goals as goal

pub loop-end-init : goal.loop-end-init
loop-end-init c = let args = c.args in counts_none args.n args.at args.text.now c.requires.1 c.requires.0

pub loop-end-preserved : goal.loop-end-preserved
loop-end-preserved c =
    let loop = c.loop-end in
    let args = c.args in
    counts_more args.n args.at args.text.now loop.value loop.end c.with_digit-value.result loop.invariant c.loop-end-test.true
    (sym c.is_digit.ensures ∙ c.if-is_digit.true) c.with_digit-value.ensures

pub returns-else-is_digit : goal.returns-else-is_digit
returns-else-is_digit c =
    let loop = c.loop-end in
    let args = c.args in
    counted_to_other args.n args.at args.text.now loop.value loop.end loop.invariant c.loop-end-test.true
    (sym c.is_digit.ensures ∙ c.if-is_digit.false)

pub returns-after-loop-end : goal.returns-after-loop-end
returns-after-loop-end c =
    let loop = c.loop-end in
    let args = c.args in
    counted_to_end args.n args.at args.text.now loop.value loop.end loop.invariant c.loop-end-test.false

pub with_digit-value-requires : goal.with_digit-value-requires
with_digit-value-requires c = (counts_bound c.loop-end.invariant, sym c.is_digit.ensures ∙ c.if-is_digit.true)
