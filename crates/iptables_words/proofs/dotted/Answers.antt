-- `dotted` meets its contract. The loop's invariant: so many numbers up to `start` are read, and with the pieces from `start` on the address so far is
-- read as the whole word is. Assumes nothing.
use Prim.Native.Nat.{◌+◌, ◌*◌}
use mathlib.Core.Path.{◌∙◌}
use Rattle.iptables.specs.Words.{dot}
use Rattle.iptables_words.proofs.Pieces.{piece_ends}
use Rattle.iptables_words.proofs.Addresses.{Reading, none_read, reading_fits, all_read, one_left, none_to_come, no_byte, one_more}
use borrow.Author.Rules.{rules}
use Rattle.iptables_words.proofs.dotted.Goals as goal
use Rattle.iptables_words.proofs.dotted.Goals.{In_ok-address}

next : (c : In_ok-address)
    → let loop = c.loop in
    Reading c.args.word.now (loop.address * 256 + c.in_ok-address.field-0) (loop.counter + 1) (c.cut-end.result + 1)
next c =
    let loop = c.loop in
    one_more c.args.word.now loop.address loop.counter loop.start loop.invariant c.loop-test.true c.cut-end.result
    c.if-word-start.false c.cut-end.ensures _ c.in_ok-address.ensures

pub loop-init : goal.loop-init
loop-init c = none_read c.args.word.now

pub loop-preserved : goal.loop-preserved
loop-preserved c = next c

-- no piece is left, though numbers are still to come
pub returns-then-word-start : goal.returns-then-word-start
returns-then-word-start c =
    let loop = c.loop in
    none_to_come c.args.word.now loop.address loop.counter loop.start loop.invariant c.loop-test.true c.if-word-start.true

-- the piece is no number from 0 to 255
pub returns-in_err-address : goal.returns-in_err-address
returns-in_err-address c =
    let loop = c.loop in
    c.from_residual.ensures
    ∙ no_byte c.args.word.now loop.address loop.counter loop.start loop.invariant c.loop-test.true c.cut-end.result
    c.if-word-start.false c.cut-end.ensures c.in_err-address.ensures

-- all numbers are read, and a piece is left, or none
pub returns-then-start-word : goal.returns-then-start-word
returns-then-start-word c =
    let loop = c.loop in
    one_left c.args.word.now loop.address loop.counter loop.start loop.invariant c.loop-test.false c.if-start-word.true

pub returns : goal.returns
returns c =
    let loop = c.loop in
    all_read c.args.word.now loop.address loop.counter loop.start loop.invariant c.loop-test.false c.if-start-word.false

-- the numbers fit
pub overflow_mul-address : goal.overflow_mul-address
overflow_mul-address c = let small = reading_fits c.loop.invariant in search rules

pub overflow_add-address : goal.overflow_add-address
overflow_add-address c = let small = reading_fits (next c) in search rules

pub slice_bounds-number_in-end : goal.slice_bounds-number_in-end
slice_bounds-number_in-end c =
    let bounds = piece_ends dot c.args.word.now c.loop.start c.cut-end.result c.if-word-start.false c.cut-end.ensures in
    search rules
