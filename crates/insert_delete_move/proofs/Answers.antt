-- Any two answers that the planner allows are equal, with every byte of the place, by its contract as the checker reads it. Assumes nothing.
use mathlib.Core.Path.{◌≡◌}
use Rattle.deployment.proofs.Lent.{same_left}
use Rattle.std.specs.Prelude.{Result}
use Rattle.plans.specs.declared.Plan.{Plan}
use Rattle.deployment.specs.declared.Refusal.{Refusal}
use Rattle.insert_delete_move.proofs.plan_two.Reads as plan

pub one_plan_of_type_two : (κ : _) (a : _) (r s : Result Plan Refusal) (e f : _) → plan.Post κ a r e → plan.Post κ a s f
    → (r ≡ s) × (e.1.1.1.0.now ≡ f.1.1.1.0.now)
one_plan_of_type_two κ a r s e f p q = same_left p q
