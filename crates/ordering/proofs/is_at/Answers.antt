-- `is_at` is the test of the policy's rule at an index: no rule there, or one to compare. Assumes nothing.
use mathlib.Core.Path.{sym, ◌∙◌, ap}
use lib.Dec.{eqb}
use Rattle.deployment.specs.Values.{numbers_of}
use Rattle.ordering.proofs.Support.{passes_past, passes_inside}
use Rattle.ordering.proofs.is_at.Goals as goal

pub returns-then-listed-i : goal.returns-then-listed-i
returns-then-listed-i c =
    let a = c.args in
    sym (passes_past (λ x. eqb x a.r) a.i (numbers_of a.policy.now) (rw c.listed.ensures at c.if-listed-i.true))

pub returns : goal.returns
returns c =
    let a = c.args in
    ap (λ x. eqb x a.r) c.number_at.ensures
    ∙ sym (passes_inside (λ x. eqb x a.r) a.i (numbers_of a.policy.now) (rw c.listed.ensures at c.if-listed-i.false))
