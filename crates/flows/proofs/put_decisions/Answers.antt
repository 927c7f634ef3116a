-- `put_decisions` meets its contract. The loop's invariant: the decisions of the first k flows stand in the place, three bytes each.
-- Assumes nothing.
use native.Mathlib.Omega.{arith}
use Rattle.deployment.proofs.Storing.{stored_long}
use Rattle.flows.proofs.ManyFlows.{none_put, one_more_put, all_put}
use Rattle.flows.proofs.put_decisions.Goals as goal
use Rattle.flows.proofs.put_decisions.Invariants.{decides}

pub loop-k-init : goal.loop-k-init
loop-k-init c =
    let a = c.args in
    none_put (decides a.rules.now a.skip a.policy.now a.default) a.flows.now a.place.now

pub loop-k-preserved : goal.loop-k-preserved
loop-k-preserved c =
    let at = c.loop-k in
    let a = c.args in
    rw c.store.ensures
    (one_more_put (decides a.rules.now a.skip a.policy.now a.default) a.flows.now a.place.now at.place at.k
    (omega (arith, c.loop-k-test.true)) c.flow_at-flow.ensures
    c.decided.ensures c.decision_bytes-bytes.ensures at.invariant)

pub shape_of-place : goal.shape_of-place
shape_of-place c = stored_long c.loop-k.invariant

pub returns : goal.returns
returns c =
    let at = c.loop-k in
    let a = c.args in
    all_put (decides a.rules.now a.skip a.policy.now a.default) a.flows.now a.place.now at.place at.k
    (omega arith) c.requires at.invariant
