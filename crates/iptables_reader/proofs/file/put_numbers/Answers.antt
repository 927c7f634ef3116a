-- `put_numbers` meets its contract. The loop's invariant: the first k numbers are stored behind the head, two bytes each. Assumes nothing.
use native.Mathlib.Omega.{arith}
use mathlib.Core.Path.{◌∙◌}
use Rattle.deployment.proofs.Storing.{stored_long}
use Rattle.iptables_reader.proofs.Filing.{numbers_none, numbers_further, policy_put}
use Rattle.iptables_reader.proofs.file.put_numbers.Goals as goal

pub loop-k-init : goal.loop-k-init
loop-k-init c = numbers_none _ _

pub loop-k-preserved : goal.loop-k-preserved
loop-k-preserved c =
    let at-loop = c.loop-k in
    rw c.store-in-loop-k.ensures (numbers_further at-loop.k (omega arith) at-loop.invariant)

pub returns : goal.returns
returns c =
    let a = c.args in
    policy_put a.place.now a.at a.tag a.count c.loop-k.k (omega (arith, c.ranges.tag))
    c.requires.0 (omega arith) c.store.ensures c.loop-k.invariant

pub shape_of-place : goal.shape_of-place
shape_of-place c = stored_long c.loop-k.invariant ∙ c.store.auto.place
