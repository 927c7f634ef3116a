-- `made_two` writes the plan's script field: the rules kept are the keep list or the planner's own choice, and the two stages send the plan.
-- Assumes nothing.
use native.Mathlib.Omega.{arith}
use mathlib.Core.Path.{◌≡◌, ◌∙◌, ap, ap₂}
use lib.ListN.{length}
use lib.Seq.{take_all}
use Rattle.policy.specs.InsertDeleteMove.{own_choice, kept_two}
use Rattle.running.specs.Running.{view}
use Rattle.deployment.specs.Values.{numbers_of}
use Rattle.deployment.specs.FieldValues.{lent}
use Rattle.first_stage.specs.FirstStage.{FirstStage}
use Rattle.plans.specs.Plans.{made_two_of, keep_of}
use Rattle.plans.proofs.Sending.{placed}
use Rattle.insert_delete_move.proofs.PlanTwo.{kept_given, kept_chosen, kept_accepted, second_fits, both_sent}
use Rattle.insert_delete_move.proofs.made_two.Goals as goal
use Rattle.insert_delete_move.proofs.made_two.Goals.{After-list_of-new, After-stage_one-stage, Joined-keep, in-None, in-Some}

-- the lists that are read
old : (c : After-list_of-new) → view c.list_of-old.result ≡ numbers_of c.args.initial.now
old c = c.list_of-old.ensures ∙ take_all 1024 (numbers_of c.args.initial.now) (omega (arith, c.requires.1))

new : (c : After-list_of-new) → view c.list_of-new.result ≡ numbers_of c.args.target.now
new c = c.list_of-new.ensures ∙ take_all 1024 (numbers_of c.args.target.now) (omega (arith, c.requires.2))

pub own_choice-keeping-requires : goal.own_choice-keeping-requires
own_choice-keeping-requires c =
    let at = (goal.at.own_choice-keeping-requires c).After-list_of-new in
    (rw (old at) c.requires.0.first, rw (new at) c.requires.0.last)

-- the rules that are kept
keeping : (c : Joined-keep)
    → view c.match-keep.keeping ≡ kept_two (numbers_of c.args.initial.now) (numbers_of c.args.target.now) (keep_of (lent c.args.keep))
unfolding lent
keeping c =
    let a = c.args in
    let at = (goal.at.Joined-keep c).After-list_of-new in
    elim c.match-keep.branch [
      | in-Some w ↦
          rw w.in-Some.is
          (kept_given _ _ w.in-Some.keep.now _ (rw w.in-Some.is at c.requires.0) c.requires.1 (ap view w.keeping-is ∙ w.list_of-keeping.ensures))
      | in-None w ↦
          rw w.in-None.is (kept_chosen _ _ _ (ap view w.keeping-is ∙ w.own_choice-keeping.ensures ∙ ap₂ own_choice (old at) (new at)))
    ]

pub stage_one-stage-requires : goal.stage_one-stage-requires
stage_one-stage-requires c =
    let at = (goal.at.stage_one-stage-requires c).After-list_of-new in (
      rw (old at, new at, keeping (goal.at.stage_one-stage-requires c).Joined-keep) (kept_accepted _ _ _ c.requires.0),
      rw (old at) c.requires.1,
      rw (new at) c.requires.2,
    )

-- what the first stage leaves, of the lists that are read
first : (c : After-stage_one-stage)
    → let a = c.args in
    let initial = numbers_of a.initial.now in
    let target = numbers_of a.target.now in
    FirstStage initial target (kept_two initial target (keep_of (lent a.keep))) a.field.now c.stage_one-stage.result c.stage_one-stage.new.field
first c =
    let at = (goal.at.After-stage_one-stage c).After-list_of-new in
    rw (old at, new at, keeping (goal.at.After-stage_one-stage c).Joined-keep) at c.stage_one-stage.ensures

pub stage_two-commands-requires : goal.stage_two-commands-requires
stage_two-commands-requires c =
    let at = (goal.at.stage_two-commands-requires c).After-list_of-new in
    let staged = first (goal.at.stage_two-commands-requires c).After-stage_one-stage in (
      rw (new at) c.requires.0.last,
      staged.inside,
      rw (new at) (second_fits _ _ _ c.requires.0 _ _ _ staged c.requires.1 c.requires.2),
    )

pub returns : goal.returns
unfolding made_two_of
returns c =
    let a = c.args in
    let ends = rw (new (goal.at.returns c).After-list_of-new) at c.stage_two-commands.ensures in
    let both = both_sent _ _ _ c.requires.0 _ _ _ (first (goal.at.returns c).After-stage_one-stage) _ _ ends.0 ends.1 in
    placed (made_two_of (numbers_of a.initial.now) (numbers_of a.target.now) (keep_of (lent a.keep)))
    c.count.result c.stage_two-commands.result (c.count.ensures ∙ ap length (keeping (goal.at.returns c).Joined-keep)) both.0 both.1 c.close.ensures
