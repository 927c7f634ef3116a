-- `occurs_in` meets its contract: what is left of the two lists says what the whole lists say. Assumes nothing.
use Prim.Native.Nat.{◌<◌}
use lib.Dec.{eqb}
use borrow.Author.Tests.{eqb-true, eqb-false}
use native.Mathlib.Omega.{arith}
use mathlib.Core.Path.{refl, sym, ◌∙◌}
use lib.ListN.{length, drop}
use Rattle.policy.proofs.Tests.{by_test}
use Rattle.deployment.specs.Values.{numbers_of}
use Rattle.catalogue.proofs.SideBySide.{occurs_both, occurs_later, occurs_done, occurs_short}
use Rattle.values.proofs.occurs_in.Goals as goal
use Rattle.values.proofs.occurs_in.Goals.{then-number_at, else-number_at}

pub loop-k-init : goal.loop-k-init
loop-k-init c = (omega arith, refl)

pub returns-then-found-count : goal.returns-then-found-count
returns-then-found-count c =
    let a = c.args in
    let keep = numbers_of a.keep.now in
    sym (c.loop-k.invariant.1 ∙ occurs_done keep (drop c.loop-k.k (numbers_of a.list.now)) c.loop-k.found (omega arith))

pub loop-k-preserved : goal.loop-k-preserved
loop-k-preserved c =
    let a = c.args in
    let keep = numbers_of a.keep.now in
    let list = numbers_of a.list.now in
    let inv = c.loop-k.invariant in
    let left : c.loop-k.found < length keep = omega arith in
    let inside : c.loop-k.k < length list = omega arith in
    let kept = c.number_at.ensures in
    let listed = c.number_at-in-loop-k.ensures in
    elim c.if-number_at.branch [
      | then-number_at w ↦ (
        omega (arith, w.found-is),
        inv.1 ∙ rw w.found-is (occurs_both keep list c.loop-k.found c.loop-k.k left inside (sym kept ∙ w.if-number_at.true ∙ listed)),
      )
      | else-number_at w ↦ (
        omega (arith, w.found-is),
        inv.1 ∙ rw w.found-is (occurs_later keep list c.loop-k.found c.loop-k.k left inside (λ e. w.if-number_at.false (kept ∙ e ∙ sym listed))),
      )
    ]

pub returns : goal.returns
returns c =
    let a = c.args in
    let keep = numbers_of a.keep.now in
    let list = numbers_of a.list.now in
    let found = c.loop-k.found in
    let count = c.listed-count.result in
    by_test (eqb found count)
    (λ t. t ∙ sym (c.loop-k.invariant.1 ∙ occurs_done keep (drop c.loop-k.k list) found (omega (arith, eqb-true found count t))))
    (λ f. f ∙ sym (c.loop-k.invariant.1 ∙ occurs_short keep list found c.loop-k.k (omega (arith, eqb-false found count f)) (omega arith)))
