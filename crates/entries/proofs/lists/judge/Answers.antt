-- `lists::judge` meets its contract: values that pass hold the contents that are read of them, and the verdict on them is the answer; without a
-- script they are turned away. Assumes nothing.
use Prim.Native.Nat.{◌/◌}
use mathlib.Core.Path.{◌≡◌, ap}
use lib.ListN.{length}
use Rattle.std.proofs.lemmas.Result.{err_from_is_err_and}
use Rattle.deployment.specs.File.{needs_script}
use Rattle.deployment.specs.FieldValues.{FieldValues, lent, read_values}
use Rattle.deployment.specs.declared.Why.TheVariants.{NoScript}
use Rattle.deployment.proofs.Lent.{turned_away}
use Rattle.values.proofs.ValuesLent.{LentRead, values_refused}
use Rattle.entries.specs.Answers.{judged_reading}
use Rattle.entries.proofs.Given.{opened, turned_to_judge, values_scriptless, values_to_judge, ToJudge, judge_asks, said}
use Rattle.entries.proofs.lists.judge.Goals as goal
use Rattle.entries.proofs.lists.judge.Goals.{After-values, In-Ok, In_ok-script-in-Ok}

abbrev values : After-values → FieldValues
values c =
    let v = c.values.inside in
    record {
      rules = v.rules.now;
      initial = v.initial.now;
      target = v.target.now;
      default = lent v.default;
      keep = lent v.keep;
      script = lent v.script;
    }

-- the values pass
passed : (c : In-Ok) → LentRead (values (goal.at.In-Ok c).After-values)
passed c = opened c.values.view_is c.checked.ensures.bytes c.in-Ok.ensures.tested

pub returns-in-Err : goal.returns-in-Err
unfolding judged_reading
returns-in-Err c = rw c.into.ensures (turned_away _ _ _ (turned_to_judge _ _ (values_refused _ _ c.in-Err.ensures.tested)))

pub returns-in_err-script-in-Ok : goal.returns-in_err-script-in-Ok
unfolding judged_reading lent
returns-in_err-script-in-Ok c =
    let p = err_from_is_err_and c.from_residual.result c.from_residual.ensures.1 in
    let lacks = c.in_err-script-in-Ok.ensures.ok_part in
    let why : c.in_err-script-in-Ok.field-0.0 ≡ NoScript = cc (rw lacks at c.in_err-script-in-Ok.ensures.value) in
    rw (p.1, p.2, why, ← c.values.view_is)
    (turned_away _ _ _ (values_scriptless (passed (goal.at.returns-in_err-script-in-Ok c).In-Ok) (ap lent lacks)))

to_judge : (c : In_ok-script-in-Ok)
    → let v = values (goal.at.In_ok-script-in-Ok c).After-values in
    ToJudge (needs_script 0 (read_values v)) (length v.rules / 27) v.initial v.target v.keep c.in_ok-script-in-Ok.script.now
unfolding lent
to_judge c = values_to_judge (passed (goal.at.In_ok-script-in-Ok c).In-Ok) (ap lent c.in_ok-script-in-Ok.ensures.ok_part)

pub verdict_of-requires : goal.verdict_of-requires
verdict_of-requires c = judge_asks (to_judge (goal.at.verdict_of-requires c).In_ok-script-in-Ok)

pub returns-in_ok-script-in-Ok : goal.returns-in_ok-script-in-Ok
returns-in_ok-script-in-Ok c =
    rw (← c.values.view_is) (said (to_judge (goal.at.returns-in_ok-script-in-Ok c).In_ok-script-in-Ok) c.verdict_of.ensures)
