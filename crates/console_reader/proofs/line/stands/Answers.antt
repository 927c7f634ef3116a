-- `stands` meets its contract. The loop's invariant: the text has room for the word, and it has the whole word from the position on exactly when it
-- has the rest of it behind the first k bytes. Assumes nothing.
use Prim.Native.Nat.{◌+◌}
use native.Mathlib.Omega.{arith}
use mathlib.Core.Path.{sym, ◌∙◌}
use lib.ListN.{drop}
use Rattle.console_reader.proofs.Standing.{from_start, same_byte, other_byte, word_ends, too_short}
use Rattle.console_reader.proofs.line.stands.Goals as goal

pub loop-k-init : goal.loop-k-init
loop-k-init c =
    let args = c.args in
    (omega (arith, c.requires, c.if-text-at.false), from_start args.word.now args.text.now args.at)

pub loop-k-preserved : goal.loop-k-preserved
loop-k-preserved c =
    let args = c.args in
    let k = c.loop-k.k in
    let inv = c.loop-k.invariant in
    (inv.0, inv.1 ∙ same_byte args.word.now args.text.now args.at k c.loop-k-test.true (omega (arith, inv.0)) c.if-text-at-2.false)

pub returns : goal.returns
returns c =
    let args = c.args in
    let k = c.loop-k.k in
    sym (c.loop-k.invariant.1 ∙ word_ends args.word.now (drop (args.at + k) args.text.now) k c.loop-k-test.false)

pub returns-then-text-at-2 : goal.returns-then-text-at-2
returns-then-text-at-2 c =
    let args = c.args in
    let inv = c.loop-k.invariant in
    sym (inv.1 ∙ other_byte args.word.now args.text.now args.at c.loop-k.k c.loop-k-test.true (omega (arith, inv.0)) c.if-text-at-2.true)

pub returns-then-text-at : goal.returns-then-text-at
returns-then-text-at c = let args = c.args in sym (too_short args.word.now args.text.now args.at c.requires c.if-text-at.true)
