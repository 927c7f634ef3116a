-- `list_of` meets its contract: the first k slots hold the first k numbers. Assumes nothing.
use native.Mathlib.Nat.{min_comm}
use native.Mathlib.Omega.{arith}
use mathlib.Core.Path.{◌≡◌, refl, ◌∙◌, ap}
use lib.ListN.{length, take, length-set}
use Rattle.std.proofs.lemmas.List.{take_min}
use Rattle.running.specs.Running.{view}
use Rattle.deployment.specs.Values.{numbers_of}
use Rattle.format.proofs.Copying.{copied_further}
use Rattle.format.proofs.list_of.Goals as goal

pub loop-k-init : goal.loop-k-init
loop-k-init c = (refl, refl)

pub loop-k-preserved : goal.loop-k-preserved
loop-k-preserved c =
    let numbers = numbers_of c.args.value.now in
    let inv = c.loop-k.invariant in (
      length-set c.loop-k.rules c.loop-k.k c.number_at.result ∙ inv.0,
      rw c.number_at.ensures (copied_further c.loop-k.rules numbers c.loop-k.k (omega arith) (omega arith) inv.1),
    )

pub returns : goal.returns
unfolding view
returns c =
    let numbers = numbers_of c.args.value.now in
    let all : c.loop-k.k ≡ c.min-len.result = omega arith in
    let len = c.min-len.ensures ∙ rw c.listed.ensures (min_comm (length numbers) 1024) in
    (rw all at c.loop-k.invariant.1) ∙ ap (λ n. take n numbers) len ∙ take_min 1024 numbers
