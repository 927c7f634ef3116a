-- `plan_one` meets its contract: the plan is made in a place of its own, and its field is sent. Assumes nothing.
use mathlib.Core.Path.{◌∙◌}
use Rattle.plans.proofs.LentPlace.{plan_inside, plan_sent}
use Rattle.append_delete.proofs.plan_one.Goals as goal

pub slice_bounds-send-end : goal.slice_bounds-send-end
slice_bounds-send-end c = plan_inside c.made_one-plan.ensures

pub returns : goal.returns
returns c = c.send.ensures ∙ plan_sent c.made_one-plan.ensures _
