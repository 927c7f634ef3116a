-- `advanced` goes one further exactly where the test passes. Assumes nothing.
use native.Mathlib.Omega.{arith}
use mathlib.Core.Path.{sym, ◌∙◌}
use Rattle.deployment.specs.Values.{numbers_of}
use Rattle.deployment.proofs.Records.{numbers_length}
use Rattle.ordering.specs.Fronts.{stands}
use Rattle.ordering.proofs.Support.{passes_within}
use Rattle.ordering.proofs.advanced.Goals as goal

pub overflow_add-result : goal.overflow_add-result
overflow_add-result c =
    let a = c.args in
    let inside = passes_within (stands a.places.now a.k) a.i (numbers_of a.policy.now) (sym c.stands_at.ensures ∙ c.if-stands_at.true) in
    omega (arith, numbers_length a.policy.now, c.well_formed)

pub returns-then-stands_at : goal.returns-then-stands_at
returns-then-stands_at c = rw (sym c.stands_at.ensures ∙ c.if-stands_at.true)

pub returns : goal.returns
returns c = rw (sym c.stands_at.ensures ∙ c.if-stands_at.false)
