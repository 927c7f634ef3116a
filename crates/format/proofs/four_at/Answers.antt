-- `four_at` meets its contract: the four bytes stand there if the test says so, and their number is read. Assumes nothing.
use Prim.Native.Nat.{◌+◌, ◌≤◌}
use native.Mathlib.Omega.{arith}
use mathlib.Core.Path.{sym, ◌∙◌, ap}
use lib.ListN.{length}
use Rattle.policy.proofs.Tests.{never}
use Rattle.deployment.specs.Bytes.{number}
use Rattle.deployment.proofs.Records.{part_between, number_there, number_missing}
use Rattle.format.proofs.four_at.Goals as goal

pub returns-then-stand : goal.returns-then-stand
returns-then-stand c =
    let a = c.args in
    c.number_of.ensures
    ∙ ap number (part_between a.at 4 a.bytes.now)
    ∙ sym (number_there a.at 4 a.bytes.now (c.stand.ensures.0 c.if-stand.true))

pub returns : goal.returns
returns c =
    let a = c.args in
    let cut : ¬ (a.at + 4 ≤ length a.bytes.now) = λ h. never (c.stand.ensures.1 h) c.if-stand.false in
    sym (number_missing a.at 4 a.bytes.now (omega arith))
