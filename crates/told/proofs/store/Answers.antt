-- `store` meets its contract: the first values stand in the first words, as many as have room. Assumes nothing.
use Prim.Native.Nat.{◌+◌}
use native.Mathlib.Omega.{arith}
use mathlib.Core.Path.{◌≡◌, sym, ◌∙◌}
use mathlib.Core.Logic.{inl, inr}
use mathlib.Core.List.{◌++◌}
use borrow.Author.Tests.{leb-true, leb-false}
use lib.Dec.{leb}
use lib.ListN.{length, take, drop}
use lib.Seq.{sets, sets-eq, length-take-le}
use Rattle.policy.proofs.Tests.{by_test}
use Rattle.deployment.proofs.Storing.{copied_all}
use Rattle.told.proofs.store.Goals as goal

pub returns : goal.returns
returns c =
    let answer = c.args.answer.now in
    let values = c.args.values.now in
    let room = c.min-room.result in
    let first = take room values in
    let long : 0 + length first ≡ room = omega (arith, length-take-le room values (omega arith)) in
    let stored : sets answer 0 first ≡ first ++ drop room answer = rw long at (sets-eq first answer 0 (omega arith)) in
    rw c.copy_from_slice.ensures.after
    (sym stored
    ∙ copied_all answer 0 values room (omega arith)
    (by_test (leb (length values) (length answer))
    (λ all. inl (omega (arith, leb-true (length values) (length answer) all)))
    (λ some. inr (omega (arith, leb-false (length values) (length answer) some)))))
