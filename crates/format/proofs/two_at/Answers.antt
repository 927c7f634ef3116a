-- `two_at` meets its contract: the two bytes stand there if the test says so, and their number is read. Assumes nothing.
use Prim.Native.Nat.{◌+◌, ◌≤◌}
use native.Mathlib.Omega.{arith}
use mathlib.Core.Path.{sym, ◌∙◌, ap}
use lib.ListN.{length}
use Rattle.policy.proofs.Tests.{never}
use Rattle.deployment.specs.Bytes.{number}
use Rattle.deployment.proofs.Records.{part_between, number_there, number_missing}
use Rattle.format.proofs.Numbers.{two_fit}
use Rattle.format.proofs.two_at.Goals as goal

pub returns-then-stand : goal.returns-then-stand
returns-then-stand c =
    let a = c.args in
    c.number_of.ensures
    ∙ ap number (part_between a.at 2 a.bytes.now)
    ∙ sym (number_there a.at 2 a.bytes.now (c.stand.ensures.0 c.if-stand.true))

pub returns : goal.returns
returns c =
    let a = c.args in
    let cut : ¬ (a.at + 2 ≤ length a.bytes.now) = λ h. never (c.stand.ensures.1 h) c.if-stand.false in
    sym (number_missing a.at 2 a.bytes.now (omega arith))

pub overflow_cast-result : goal.overflow_cast-result
overflow_cast-result c =
    let a = c.args in
    let is = c.number_of.ensures ∙ ap number (part_between a.at 2 a.bytes.now) in
    omega (arith, is, two_fit a.at a.bytes.now (λ i. omega (arith, c.type_inv.bytes i)) (c.stand.ensures.0 c.if-stand.true))
