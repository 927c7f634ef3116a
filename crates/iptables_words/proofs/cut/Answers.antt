-- `cut` meets its contract. The loop's invariant: the piece that starts at `at` ends where the piece ends that would start at `end`.
-- Assumes nothing.
use mathlib.Core.Path.{refl}
use Rattle.iptables_words.proofs.Pieces.{goes_on_lem, ends_at_byte, ends_with_all}
use Rattle.iptables_words.proofs.cut.Goals as goal

pub loop-end-init : goal.loop-end-init
loop-end-init c = refl

pub loop-end-preserved : goal.loop-end-preserved
loop-end-preserved c =
    let loop = c.loop-end in
    let args = c.args in
    goes_on_lem args.by args.bytes.now args.at loop.end loop.invariant c.loop-end-test.true
    c.if-bytes-end.true

pub returns-else-bytes-end : goal.returns-else-bytes-end
returns-else-bytes-end c =
    let loop = c.loop-end in
    let args = c.args in
    ends_at_byte args.by args.bytes.now args.at loop.end loop.invariant c.loop-end-test.true
    c.if-bytes-end.false

pub returns-after-loop-end : goal.returns-after-loop-end
returns-after-loop-end c =
    let loop = c.loop-end in
    let args = c.args in
    ends_with_all args.by args.bytes.now args.at loop.end loop.invariant c.loop-end-test.false
