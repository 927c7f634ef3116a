-- `is_next` is the two tests one after the other. Assumes nothing.
use mathlib.Core.Path.{sym, ◌∙◌}
use Rattle.deployment.specs.Values.{numbers_of}
use Rattle.policy.proofs.Tests.{or_left}
use Rattle.ordering.specs.Fronts.{is_at}
use Rattle.ordering.proofs.is_next.Goals as goal

pub returns-then-is_at : goal.returns-then-is_at
returns-then-is_at c =
    let a = c.args in
    sym (or_left (is_at a.r a.b (numbers_of a.target.now)) (sym c.is_at.ensures ∙ c.if-is_at.true))

pub returns : goal.returns
returns c = rw (sym c.is_at.ensures ∙ c.if-is_at.false) c.is_at-2.ensures
