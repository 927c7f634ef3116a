-- `lists::plan_one` meets its contract: values that are turned away leave the place as it was; else the lists are planned as they are given.
-- Assumes nothing.
use Rattle.std.proofs.lemmas.Result.{err_from_is_err_and}
use Rattle.deployment.specs.FieldValues.{FieldValues, lent}
use Rattle.deployment.proofs.Lent.{turned_away}
use Rattle.values.proofs.ValuesLent.{LentRead, values_refused}
use Rattle.entries.specs.Answers.{planned}
use Rattle.entries.proofs.Given.{opened, planners_ask, one_planned, values_given_lem}
use Rattle.entries.proofs.lists.plan_one.Goals as goal
use Rattle.entries.proofs.lists.plan_one.Goals.{After-values}

abbrev values : After-values → FieldValues
values c =
    let v = c.values.inside in
    record {
      rules = v.rules.now;
      initial = v.initial.now;
      target = v.target.now;
      default = lent v.default;
      keep = lent v.keep;
      script = lent v.script;
    }

-- the values pass
passed : (c : After-values) → LentRead (values c)
passed c = opened c.values.view_is c.checked.ensures.bytes c.in_ok-checked.ensures.tested

pub returns-in_err-checked : goal.returns-in_err-checked
unfolding planned
returns-in_err-checked c =
    let p = err_from_is_err_and c.from_residual.result c.from_residual.ensures.1 in
    rw (p.1, p.2) (turned_away _ _ _ (values_refused _ _ c.in_err-checked.ensures.tested))

pub plan_one-requires : goal.plan_one-requires
plan_one-requires c = let a = planners_ask (values_given_lem (passed (goal.at.plan_one-requires c).After-values)) in (a.0.first, a.1, a.2)

pub returns : goal.returns
returns c =
    rw (← c.values.view_is)
    (one_planned (values_given_lem (passed (goal.at.returns c).After-values)) c.args.place.now c.plan_one.ensures)
