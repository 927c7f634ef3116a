-- `decide_into` meets its contract: turned away for the flows' length, for the room, or all decisions written. Assumes nothing.
use mathlib.Core.Path.{refl}
use Rattle.policy.specs.Policy.{under, decide, matching}
use Rattle.policy.specs.declared.Decision.{Decision}
use Rattle.policy.specs.declared.Flow.{Flow}
use Rattle.deployment.specs.Values.{numbers_of}
use Rattle.deployment.specs.Catalogue.{catalogue_of}
use Rattle.flows.proofs.ManyFlows.{uneven, no_room, written}
use Rattle.flows.proofs.decide_into.Goals as goal
use Rattle.flows.proofs.decide_into.Goals.{Start}

-- what decides a flow
abbrev decides : Start → Flow → Decision
decides start flow =
    let a = start.args in decide (matching (catalogue_of a.skip a.rules.now) flow) (under a.default (numbers_of a.policy.now))

pub returns-then-flows-ne0 : goal.returns-then-flows-ne0
returns-then-flows-ne0 c = uneven (decides (goal.at.returns-then-flows-ne0 c).Start) c.args.flows.now c.args.place.now c.if-flows-ne0.true

pub returns-then-place-needed : goal.returns-then-place-needed
returns-then-place-needed c =
    no_room (decides (goal.at.returns-then-place-needed c).Start) c.args.flows.now c.args.place.now c.if-flows-ne0.false _ refl c.if-place-needed.true

pub returns : goal.returns
returns c =
    written (decides (goal.at.returns c).Start) c.args.flows.now c.args.place.now c.if-flows-ne0.false _ refl c.if-place-needed.false
    c.put_decisions.ensures
