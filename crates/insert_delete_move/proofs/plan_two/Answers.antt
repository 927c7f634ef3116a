-- `plan_two` meets its contract: the plan is made in a place of its own, and its field is sent. Assumes nothing.
use mathlib.Core.Path.{◌∙◌}
use Rattle.deployment.specs.Values.{numbers_of}
use Rattle.deployment.specs.FieldValues.{lent}
use Rattle.plans.specs.Plans.{made_two_of, keep_of}
use Rattle.plans.proofs.LentPlace.{plan_inside, plan_sent}
use Rattle.insert_delete_move.proofs.plan_two.Goals as goal

pub slice_bounds-send-end : goal.slice_bounds-send-end
slice_bounds-send-end c = plan_inside c.made_two-plan.ensures

pub returns : goal.returns
returns c =
    let a = c.args in
    c.send.ensures
    ∙ plan_sent {made = made_two_of (numbers_of a.initial.now) (numbers_of a.target.now) (keep_of (lent a.keep))} c.made_two-plan.ensures _
