-- `decided` meets its contract. The loop's invariant: none of the list's first k rules matches. Assumes nothing.
use native.Mathlib.Omega.{arith}
use mathlib.Core.Path.{sym}
use Rattle.policy.specs.Policy.{Matching, Policy, under, matching}
use Rattle.deployment.specs.Values.{numbers_of}
use Rattle.deployment.specs.Catalogue.{catalogue_of}
use Rattle.decision.proofs.FirstMatch.{passed_none, passed_more, decides_here, decides_none}
use Rattle.decision.proofs.decided.Goals as goal
use Rattle.decision.proofs.decided.Goals.{Start}

-- the flow that is asked about, and the policy that decides it
abbrev asked : Start → Matching
asked s = matching (catalogue_of s.args.skip s.args.rules.now) s.args.flow

abbrev deciding : Start → Policy
deciding s = under s.args.default (numbers_of s.args.list.now)

pub loop-k-init : goal.loop-k-init
loop-k-init c = passed_none (asked (goal.at.loop-k-init c).Start) (deciding (goal.at.loop-k-init c).Start)

pub returns-then-hit : goal.returns-then-hit
unfolding matching
returns-then-hit c =
    let start = (goal.at.returns-then-hit c).Start in
    rw c.action.ensures
    (sym (decides_here (asked start) (deciding start) c.loop-k.k c.number_at-n.result c.hit.result
    c.loop-k.invariant (omega arith) c.number_at-n.ensures c.hit.ensures c.if-hit.true))

pub loop-k-preserved : goal.loop-k-preserved
unfolding matching
loop-k-preserved c =
    let start = (goal.at.loop-k-preserved c).Start in
    passed_more (asked start) (deciding start) c.loop-k.k c.number_at-n.result c.hit.result
    c.loop-k.invariant (omega arith) c.number_at-n.ensures c.hit.ensures c.if-hit.false

pub returns : goal.returns
unfolding matching
returns c =
    let start = (goal.at.returns c).Start in
    sym (decides_none (asked start) (deciding start) c.loop-k.k c.loop-k.invariant (omega arith))
