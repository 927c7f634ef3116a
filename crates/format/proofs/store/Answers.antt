-- `store` meets its contract. The loop's invariant: the place is the old one with the first k bytes of the value stored from `at` on. Assumes nothing.
use Prim.Native.Nat.{ℕ, ◌+◌}
use native.Mathlib.Omega.{arith}
use mathlib.Core.Path.{refl, sym, ◌∙◌, ap}
use mathlib.Core.Logic.{inl, inr}
use mathlib.Core.List.{List}
use lib.Dec.{leb}
use lib.ListN.{length, set, get_or, length-set}
use borrow.Author.Tests.{leb-true, leb-false}
use Rattle.policy.proofs.Tests.{by_test}
use Rattle.deployment.proofs.Storing.{sets_behind, copied_more, copied_all}
use Rattle.format.proofs.store.Goals as goal

pub returns-then-place-at : goal.returns-then-place-at
returns-then-place-at c =
    let args = c.args in
    sym (sets_behind args.place.now args.at args.value.now c.if-place-at.true)

pub loop-k-init : goal.loop-k-init
loop-k-init c = (refl, refl)

pub loop-k-preserved : goal.loop-k-preserved
loop-k-preserved c =
    let at-loop = c.loop-k in
    let args = c.args in
    let byte = get_or args.value.now at-loop.k 0 in (
      ap (λ (place : List ℕ). set place (args.at + at-loop.k) byte) at-loop.invariant.0
          ∙ copied_more args.place.now args.at args.value.now at-loop.k (omega (arith, c.loop-k-test.true)),
      length-set at-loop.place (args.at + at-loop.k) byte ∙ at-loop.invariant.1,
    )

pub returns : goal.returns
returns c =
    let at-loop = c.loop-k in
    let args = c.args in
    let value = args.value.now in
    at-loop.invariant.0
    ∙ copied_all args.place.now args.at value at-loop.k (omega (arith, c.min-count.ensures)) (by_test (leb (length value) at-loop.k)
    (λ t. inl (leb-true (length value) at-loop.k t))
    (λ f. inr (omega (arith, c.min-count.ensures, leb-false (length value) at-loop.k f))))
