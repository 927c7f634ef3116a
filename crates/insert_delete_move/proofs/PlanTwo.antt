-- The script for insert, delete and move as the planner makes it: the rules that are kept, and the two stages one after the other.
-- Assumes nothing.
use Prim.Native.Nat.{ℕ, ◌+◌, ◌≤◌}
use native.Mathlib.Omega.{arith}
use mathlib.Core.Path.{◌≡◌, ◌∙◌, ap}
use mathlib.Core.List.{List, ◌++◌}
use mathlib.Core.Option.{Option, none, some}
use lib.ListN.{length, take, length-append}
use lib.Seq.{take_all}
use Rattle.policy.specs.Claims.{Accepted}
use Rattle.policy.specs.InsertDeleteMove.{own_choice, kept_two, Standing, first_stage, second_stage, plan_two}
use Rattle.policy.proofs.Order.{sublist_length}
use Rattle.policy.proofs.Kept.{kept_keepable}
use Rattle.policy.proofs.Plans.{plans_fit}
use Rattle.first_stage.specs.declared.Stage.{Stage}
use Rattle.deployment.specs.Values.{numbers_of}
use Rattle.plans.specs.Sending.{Sent}
use Rattle.plans.specs.Plans.{keep_of}
use Rattle.first_stage.specs.FirstStage.{FirstStage, front_of}
use Rattle.plans.proofs.Sending.{sent_more}

-- The rules that are kept: the numbers of a keep list that is there ..
pub kept_given : (initial target value l : List ℕ) → Accepted 1024 initial target (keep_of (some value))
    → length initial ≤ 512 → l ≡ take 1024 (numbers_of value) → l ≡ kept_two initial target (keep_of (some value))
unfolding kept_two keep_of
kept_given initial target value l accepted short is =
    is ∙ take_all 1024 (numbers_of value) (omega (arith, sublist_length accepted.keepable.0))

-- .. and the planner's own choice where it is absent.
pub kept_chosen : (initial target l : List ℕ) → l ≡ own_choice initial target → l ≡ kept_two initial target (keep_of none)
unfolding kept_two keep_of
kept_chosen initial target l is = is

module _ (initial target : List ℕ) (keep : Option (List ℕ)) (accepted : Accepted 1024 initial target keep) where
  -- the rules that are kept are a keep list that the reader accepts
  pub kept_accepted : Accepted 1024 initial target (some (kept_two initial target keep))
  kept_accepted =
      record { first = accepted.first; last = accepted.last; keepable = kept_keepable 1024 initial target keep accepted }

  module _ (old field : List ℕ) (stage : Stage) (first : FirstStage initial target (kept_two initial target keep) old stage field) where
    -- the two stages are the plan
    parts : (first_stage initial (kept_two initial target keep) target).sent ++ second_stage target (front_of stage) ≡ plan_two initial target keep
    unfolding plan_two
    parts = ap (λ (l : List Standing). (first_stage initial (kept_two initial target keep) target).sent ++ second_stage target l) first.front

    count : stage.sent + length (second_stage target (front_of stage)) ≡ length (plan_two initial target keep)
    count =
        omega (
          arith,
          first.counted,
          ap length parts,
          length-append (first_stage initial (kept_two initial target keep) target).sent (second_stage target (front_of stage)),
        )

    pub second_fits : length initial ≤ 512 → length target ≤ 512 → stage.sent + length (second_stage target (front_of stage)) ≤ 1024
    second_fits short shorter = omega (arith, count, (plans_fit 1024 initial target keep accepted short shorter).1)

    -- what both have sent
    pub both_sent : (next : List ℕ) (n : ℕ) → n ≡ stage.sent + length (second_stage target (front_of stage))
        → Sent field stage.sent (second_stage target (front_of stage)) next
        → (n ≡ length (plan_two initial target keep)) × Sent old 0 (plan_two initial target keep) next
    both_sent next n is second = (
      is ∙ count,
      rw parts at (sent_more stage.sent first.sent (omega (arith, first.counted)) second),
    )
