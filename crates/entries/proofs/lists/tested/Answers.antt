-- `lists::tested` meets its contract: turned away at the rules, at the policy's list over as many rules as their bytes hold, or as the default is.
-- Assumes nothing.
use Rattle.std.proofs.lemmas.Result.{err_from_is_err_and}
use Rattle.values.proofs.Given.{Rules, rules_passed}
use Rattle.entries.proofs.Decisions.{tested_at_rules, tested_at_policy, tested_at_default}
use Rattle.entries.proofs.lists.tested.Goals as goal
use Rattle.entries.proofs.lists.tested.Goals.{In_ok-catalogue_checked}

-- the rules passed
rules : (c : In_ok-catalogue_checked) → Rules c.args.rules.now
rules c = rules_passed _ c.in_ok-catalogue_checked.ensures

pub returns-in_err-catalogue_checked : goal.returns-in_err-catalogue_checked
returns-in_err-catalogue_checked c =
    let a = c.args in
    let p = err_from_is_err_and c.from_residual.result c.from_residual.ensures.1 in
    rw (p.1, p.2) (tested_at_rules a.rules.now a.policy.now a.default _ c.in_err-catalogue_checked.ensures)

pub returns-in_err-policy_checked : goal.returns-in_err-policy_checked
returns-in_err-policy_checked c =
    let a = c.args in
    let p = err_from_is_err_and c.from_residual-in_err-policy_checked.result c.from_residual-in_err-policy_checked.ensures.1 in
    rw (p.1, p.2)
    (tested_at_policy a.rules.now a.policy.now a.default (rules (goal.at.returns-in_err-policy_checked c).In_ok-catalogue_checked) _
    c.in_err-policy_checked.ensures)

pub returns : goal.returns
returns c =
    let a = c.args in
    tested_at_default a.rules.now a.policy.now a.default (rules (goal.at.returns c).In_ok-catalogue_checked)
    c.in_ok-policy_checked.ensures _ c.default_if_there.ensures
