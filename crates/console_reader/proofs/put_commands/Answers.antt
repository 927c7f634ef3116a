-- `put_commands` meets its contract. The invariant: the commands of the lines before the position stand in the place, and the whole text is read
-- as they are in front of what the rest is read as. The measure is what is left of the text: a line that is read has a byte at least.
-- Assumes nothing.
use Prim.Native.Nat.{◌+◌}
use native.Mathlib.Omega.{arith}
use mathlib.Core.Path.{◌≡◌}
use lib.ListN.{drop}
use borrow.Author.Rules.{rules}
use Rattle.std.specs.Prelude.{Err}
use Rattle.console_reader.proofs.Gathering.{CommandAt, command_at_lem, ok_kept, err_kept}
use Rattle.console_reader.proofs.Gathering.{gathered_none, gathered_more, further, gathered_all, gathered_turned, gathered_full}
use Rattle.console_reader.proofs.put_commands.Goals as goal
use Rattle.console_reader.proofs.put_commands.Goals.{In_ok-next}

there : (c : In_ok-next) → CommandAt c.args.maker c.args.kind c.args.text.now (drop c.loop-at.at c.args.text.now) c.in_ok-next.next
there c =
    let text = c.args.text.now in
    let is = ok_kept _ c.next_at.result c.in_ok-next.next c.in_ok-next.was c.map_err.ensures.cases in
    command_at_lem c.args.maker c.args.kind text (drop c.loop-at.at text) c.in_ok-next.next (rw is at c.next_at.ensures)

pub loop-at-init : goal.loop-at-init
loop-at-init c = gathered_none c.args.maker c.args.kind c.args.text.now c.args.place.now

pub loop-at-preserved : goal.loop-at-preserved
loop-at-preserved c =
    let so_far = c.loop-at.invariant in
    gathered_more so_far c.loop-at-test.true (there (goal.at.loop-at-preserved c).In_ok-next) (omega (arith, so_far.few, c.if-n-eq-MOST_COMMANDS.false)) c.put.ensures

pub loop-at-smaller : goal.loop-at-smaller
loop-at-smaller c = omega (arith, c.loop-at-test.true, further c.loop-at.invariant c.loop-at-test.true (there (goal.at.loop-at-smaller c).In_ok-next))

-- 55, 56
pub returns-in_err-next : goal.returns-in_err-next
returns-in_err-next c =
    let (why, is, post) = err_kept _ c.next_at.result c.in_err-next.field-0.0 c.in_err-next.was c.map_err.ensures.cases in
    let told : c.in_err-next.field-0.0 ≡ record { why = why; at = c.loop-at.n + 1 } = search rules in
    let handed : c.from_residual.result ≡ Err c.in_err-next.field-0.0 = search rules in
    rw (handed, told) (gathered_turned c.loop-at.invariant c.loop-at-test.true why (rw is at c.next_at.ensures))

-- 4
pub returns-then-n-eq-MOST_COMMANDS : goal.returns-then-n-eq-MOST_COMMANDS
returns-then-n-eq-MOST_COMMANDS c =
    gathered_full c.loop-at.invariant c.loop-at-test.true (there (goal.at.returns-then-n-eq-MOST_COMMANDS c).In_ok-next) c.if-n-eq-MOST_COMMANDS.true

-- nothing is left
pub returns : goal.returns
returns c = gathered_all c.loop-at.invariant c.loop-at-test.false
