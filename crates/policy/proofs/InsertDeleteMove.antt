-- The script for insert, delete and move: the two stages put together. It leads from the initial policy to the target through
-- sound lists, and its commands are as many as document 01 says. Assumes nothing.
use Prim.Native.Nat.{ℕ}
use native.Mathlib.Omega.{arith}
use mathlib.Core.Path.{◌≡◌, refl, ap}
use mathlib.Core.Bool.{true}
use mathlib.Core.List.{List, [], reverse}
use mathlib.Core.Option.{Option}
use lib.ListN.{length, length-append}
use Rattle.policy.specs.Lists.{mem, common, missing}
use Rattle.policy.specs.Command.{coded, codes_of, allows, of_type}
use Rattle.policy.specs.InsertDeleteMove.{kept_two, first_stage, second_stage, plan_two, moves_in_place}
use Rattle.policy.specs.Claims.{Accepted, PlanTwoReaches, PlanTwoCount, PlanTwoSparesKept, PlanTwoMoves}
use Rattle.policy.specs.declared.Command.{Command}
use Rattle.policy.specs.declared.Command.TheVariants.{App, DelRule, Ins, DelPlace, Mov}
use Rattle.policy.proofs.Lists.{in_all}
use Rattle.policy.proofs.Counting.{common_occurring, pick_count, common_count}
use Rattle.policy.proofs.Way.{Forward, Sound, Steps, steps_leads}
use Rattle.policy.proofs.Stages.{Fit, spares_untouched, Leg, leg_append, waiting_count, waiting_reverse}
use Rattle.policy.proofs.Kept.{kept_keepable, to_keep_in}
use Rattle.policy.proofs.Front.{Given}
use Rattle.policy.proofs.FirstStage.{first_stage_lem, first_stage_count}
use Rattle.policy.proofs.SecondStage.{take_waiting_lem, take_waiting_count}

given : (size : ℕ) (initial target : List ℕ) (keep : Option (List ℕ)) → Accepted size initial target keep
    → Given size initial target (kept_two initial target keep)
given size initial target keep a =
    let both = kept_keepable size initial target keep a in
    record { old = a.first; new = a.last; kept_initial = both.0; kept_target = both.1 }

-- The whole script.
plan_two_leg : (size : ℕ) (initial target : List ℕ) (keep : Option (List ℕ)) → Accepted size initial target keep
    → Leg size initial target (kept_two initial target keep) initial (plan_two initial target keep) target
unfolding plan_two second_stage
plan_two_leg size initial target keep a =
    let kept = kept_two initial target keep in
    let one = first_stage_lem size initial target kept (given size initial target keep a) in
    let front = (first_stage initial kept target).next.front in
    leg_append one.1 (take_waiting_lem size initial target kept a.last.distinct (reverse front) [] one.0 one.2)

pub plan_two_steps : (size : ℕ) (initial target : List ℕ) (keep : Option (List ℕ)) → Accepted size initial target keep
    → Steps (Sound initial target) (Forward initial target) size initial (plan_two initial target keep) target
plan_two_steps size initial target keep a = (plan_two_leg size initial target keep a).steps

fit_type : (c : Command) → Fit c → allows 2 c ≡ true
unfolding allows coded codes_of mem
fit_type (App r) f = absurd f
fit_type (DelRule r) f = absurd f
fit_type (Ins i r) f = refl
fit_type (DelPlace i) f = refl
fit_type (Mov i j) f = refl

pub plan_two_reaches : PlanTwoReaches
unfolding of_type
plan_two_reaches size initial target keep a =
    let leg = plan_two_leg size initial target keep a in
    let script = plan_two initial target keep in (
      in_all (allows 2) script (λ c h. fit_type c (leg.fit c h)),
      steps_leads (Sound initial target) (Forward initial target) size initial target script leg.steps,
    )

pub plan_two_moves : PlanTwoMoves
plan_two_moves size initial target keep a i j h = (plan_two_leg size initial target keep a).fit (Mov i j) h

-- It touches no rule that is to be kept.
pub plan_two_spares_kept : PlanTwoSparesKept
plan_two_spares_kept size initial target keep a kept asked first others c l r e leads touches h =
    spares_untouched size (kept_two initial target keep) initial (plan_two initial target keep)
    (plan_two_leg size initial target keep a).spares first others c l r e leads touches
    (to_keep_in size initial target keep a kept asked r h)

-- The number of its commands.
pub plan_two_count : PlanTwoCount
unfolding plan_two second_stage moves_in_place common missing waiting_count
plan_two_count size initial target keep a =
    let kept = kept_two initial target keep in
    let front = (first_stage initial kept target).next.front in
    omega (
      arith,
      length-append (first_stage initial kept target).sent (second_stage target front),
      take_waiting_count target (reverse front) [],
      waiting_reverse front [],
      first_stage_count size initial target kept (given size initial target keep a),
      pick_count (λ x. mem x initial) target,
      common_count initial target a.first.distinct a.last.distinct,
      ap length (common_occurring (given size initial target keep a).kept_target a.last.distinct),
    )
