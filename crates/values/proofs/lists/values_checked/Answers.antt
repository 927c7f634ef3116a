-- `values_checked` meets its contract: each value is tested behind those that passed, and the first that is turned away decides.
-- Assumes nothing.
use mathlib.Core.Path.{◌≡◌, sym, ◌∙◌}
use Rattle.std.specs.Prelude.{Ok}
use Rattle.std.proofs.lemmas.Result.{err_from_is_err_and}
use Rattle.deployment.specs.FieldValues.{FieldValues, lent, default_value}
use Rattle.catalogue.specs.Answers.{checking}
use Rattle.values.proofs.Given.{Rules, Answers, rules_passed, bad_rules, bad_initial, bad_target, bad_default, bad_keep, by_script}
use Rattle.values.proofs.lists.values_checked.Goals as goal
use Rattle.values.proofs.lists.values_checked.Goals.{After-values, In_ok-catalogue_checked, In_ok-policy_checked, In_ok-policy_checked-2, In_ok-default_if_there}

-- the values that are lent, and what holds of them past each test
abbrev values : After-values → FieldValues
values c =
    let v = c.values.inside in
    record {
      rules = v.rules.now;
      initial = v.initial.now;
      target = v.target.now;
      default = lent v.default;
      keep = lent v.keep;
      script = lent v.script;
    }

rules : (c : In_ok-catalogue_checked) → Rules (values (goal.at.In_ok-catalogue_checked c).After-values).rules
rules c = rules_passed _ (sym c.in_ok-catalogue_checked.was ∙ c.catalogue_checked.ensures)

initial : (c : In_ok-policy_checked)
    → let v = values (goal.at.In_ok-policy_checked c).After-values in
    Answers v (rules (goal.at.In_ok-policy_checked c).In_ok-catalogue_checked) (Ok tt) v.initial
initial c = sym c.in_ok-policy_checked.was ∙ c.policy_checked.ensures

target : (c : In_ok-policy_checked-2)
    → let v = values (goal.at.In_ok-policy_checked-2 c).After-values in
    Answers v (rules (goal.at.In_ok-policy_checked-2 c).In_ok-catalogue_checked) (Ok tt) v.target
target c = sym c.in_ok-policy_checked-2.was ∙ c.policy_checked-2.ensures

default : (c : In_ok-default_if_there)
    → Ok tt ≡ checking (default_value (values (goal.at.In_ok-default_if_there c).After-values).default)
default c = sym c.in_ok-default_if_there.was ∙ c.default_if_there.ensures

pub returns-in_err-catalogue_checked : goal.returns-in_err-catalogue_checked
returns-in_err-catalogue_checked c =
    let at = goal.at.returns-in_err-catalogue_checked c in
    let p = err_from_is_err_and c.from_residual.result c.from_residual.ensures.1 in
    rw (p.1, p.2, ← c.values.view_is)
    (bad_rules (values at.After-values) _ (sym c.in_err-catalogue_checked.was ∙ c.catalogue_checked.ensures))

pub returns-in_err-policy_checked : goal.returns-in_err-policy_checked
returns-in_err-policy_checked c =
    let at = goal.at.returns-in_err-policy_checked c in
    let p = err_from_is_err_and c.from_residual-in_err-policy_checked.result c.from_residual-in_err-policy_checked.ensures.1 in
    rw (p.1, p.2, ← c.values.view_is)
    (bad_initial (values at.After-values) (rules at.In_ok-catalogue_checked)
    _ (sym c.in_err-policy_checked.was ∙ c.policy_checked.ensures))

pub returns-in_err-policy_checked-2 : goal.returns-in_err-policy_checked-2
returns-in_err-policy_checked-2 c =
    let at = goal.at.returns-in_err-policy_checked-2 c in
    let p = err_from_is_err_and c.from_residual-in_err-policy_checked-2.result c.from_residual-in_err-policy_checked-2.ensures.1 in
    rw (p.1, p.2, ← c.values.view_is)
    (bad_target (values at.After-values) (rules at.In_ok-catalogue_checked) (initial at.In_ok-policy_checked)
    _ (sym c.in_err-policy_checked-2.was ∙ c.policy_checked-2.ensures))

pub returns-in_err-default_if_there : goal.returns-in_err-default_if_there
returns-in_err-default_if_there c =
    let at = goal.at.returns-in_err-default_if_there c in
    let p = err_from_is_err_and c.from_residual-in_err-default_if_there.result c.from_residual-in_err-default_if_there.ensures.1 in
    rw (p.1, p.2, ← c.values.view_is)
    (bad_default (values at.After-values) (rules at.In_ok-catalogue_checked) (initial at.In_ok-policy_checked)
    (target at.In_ok-policy_checked-2)
    _ (sym c.in_err-default_if_there.was ∙ c.default_if_there.ensures))

pub returns-in_err-keep_if_there : goal.returns-in_err-keep_if_there
returns-in_err-keep_if_there c =
    let at = goal.at.returns-in_err-keep_if_there c in
    let p = err_from_is_err_and c.from_residual-in_err-keep_if_there.result c.from_residual-in_err-keep_if_there.ensures.1 in
    rw (p.1, p.2, ← c.values.view_is)
    (bad_keep (values at.After-values) (rules at.In_ok-catalogue_checked) (initial at.In_ok-policy_checked)
    (target at.In_ok-policy_checked-2) (default at.In_ok-default_if_there)
    _ (sym c.in_err-keep_if_there.was ∙ c.keep_if_there.ensures))

pub returns : goal.returns
returns c =
    let at = goal.at.returns c in
    rw (← c.values.view_is)
    (by_script (values at.After-values) (rules at.In_ok-catalogue_checked) (initial at.In_ok-policy_checked)
    (target at.In_ok-policy_checked-2) (default at.In_ok-default_if_there)
    _ (sym c.in_ok-keep_if_there.was ∙ c.keep_if_there.ensures) c.script_if_there.ensures)
