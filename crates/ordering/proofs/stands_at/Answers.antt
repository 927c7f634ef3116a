-- `stands_at` is the test of the policy's rule at an index: no rule there, no place, or a place to compare. Assumes nothing.
use Prim.Native.Nat.{◌<◌}
use mathlib.Core.Path.{sym, ◌∙◌, ap}
use lib.ListN.{length, get_or}
use lib.Dec.{leb}
use Rattle.deployment.specs.Values.{numbers_of}
use Rattle.ordering.specs.Fronts.{stands}
use Rattle.ordering.proofs.Support.{passes_past, stands_nowhere, stands_somewhere}
use Rattle.ordering.proofs.stands_at.Goals as goal

pub returns-then-listed-i : goal.returns-then-listed-i
returns-then-listed-i c =
    let a = c.args in
    sym (passes_past (stands a.places.now a.k) a.i (numbers_of a.policy.now) (rw c.listed.ensures at c.if-listed-i.true))

pub returns-then-place-eq0 : goal.returns-then-place-eq0
returns-then-place-eq0 c =
    let a = c.args in
    let inside : a.i < length (numbers_of a.policy.now) = rw c.listed.ensures at c.if-listed-i.false in
    sym (stands_nowhere a.places.now a.k (numbers_of a.policy.now) a.i inside
    (ap (λ r. get_or a.places.now r 0) (sym c.number_at.ensures) ∙ sym c.place_of-place.ensures ∙ c.if-place-eq0.true))

pub returns : goal.returns
returns c =
    let a = c.args in
    let inside : a.i < length (numbers_of a.policy.now) = rw c.listed.ensures at c.if-listed-i.false in
    let is = c.place_of-place.ensures ∙ ap (λ r. get_or a.places.now r 0) c.number_at.ensures in
    ap (λ p. leb p a.k) is
    ∙ sym (stands_somewhere a.places.now a.k (numbers_of a.policy.now) a.i inside (λ e. c.if-place-eq0.false (is ∙ e)))
