-- The claims about planners that turn away: an entry that writes an output for accepted contents has three answers, whatever its output is.
-- Assumes nothing.
use mathlib.Core.Path.{refl}
use Rattle.deployment.proofs.Lent as lent
use Rattle.plans.specs.Plans.{script_field, plan_of, planned_numbers, sent_plan, placed_plan}
use Rattle.std.specs.Prelude.{Ok, Err}
use Rattle.entries.specs.Answers.{planned}
use Rattle.entries.specs.PlanClaims.{TurnedAwayKeeps, RefusedForRoom, RefusedForReading}

pub turned_away_keeps : TurnedAwayKeeps
unfolding planned placed_plan sent_plan planned_numbers
turned_away_keeps planner reading place =
    lent.turned_away_keeps planned_numbers Err (λ r. refl) (λ c. Ok (plan_of (planner c))) (λ c. refl) (λ c. script_field (planner c)) reading place

pub refused_for_room : RefusedForRoom
unfolding planned placed_plan sent_plan planned_numbers
refused_for_room planner reading place =
    lent.refused_for_room planned_numbers Err (λ r. refl) (λ c. Ok (plan_of (planner c))) (λ c. refl) (λ c. script_field (planner c)) reading place

pub refused_for_reading : RefusedForReading
unfolding planned placed_plan sent_plan planned_numbers
refused_for_reading planner reading place =
    lent.refused_for_reading planned_numbers Err (λ r. refl) (λ c. Ok (plan_of (planner c))) (λ c. refl) (λ c. script_field (planner c)) reading place
