-- `replay` answers as the definition does: turned away at the policy, at the script, or run from the policy's list with its side array.
-- Assumes nothing.
use Prim.Native.Nat.{ℕ, min}
use mathlib.Core.Path.{◌≡◌, ◌∙◌, ap, ap₂}
use mathlib.Core.List.{List}
use mathlib.Core.Option.{some}
use Rattle.std.specs.Prelude.{Ok}
use Rattle.std.proofs.lemmas.Result.{err_from_is_err_and}
use Rattle.policy.specs.Replay as policy
use Rattle.deployment.specs.Values.{script_of}
use Rattle.deployment.specs.FieldValues.{policy_value, script_value}
use Rattle.catalogue.specs.Answers.{checking}
use Rattle.replay.specs.Answers.{shown_by, outcome_of, commands_of}
use Rattle.replay.proofs.Values.{turned_at_policy, turned_at_script, accepted_policy, accepted_script, runs, starts_sound}
use Rattle.replay.proofs.replay.Goals as goal
use Rattle.replay.proofs.replay.Goals.{In_ok-policy_checked, In_ok-script_checked}

pub returns-in_err-policy_checked : goal.returns-in_err-policy_checked
unfolding shown_by
returns-in_err-policy_checked c =
    let a = c.args in
    let turned = err_from_is_err_and c.from_residual.result c.from_residual.ensures.1 in
    rw (turned.1, turned.2) (turned_at_policy a.size a.initial.now a.script.now _ c.in_err-policy_checked.ensures)

-- the policy passed
policy_passed : (c : In_ok-policy_checked) → Ok tt ≡ checking (policy_value (min c.args.size 1024) c.args.initial.now)
policy_passed c = c.in_ok-policy_checked.ensures

pub returns-in_err-script_checked : goal.returns-in_err-script_checked
unfolding shown_by
returns-in_err-script_checked c =
    let a = c.args in
    let turned = err_from_is_err_and c.from_residual-in_err-script_checked.result c.from_residual-in_err-script_checked.ensures.1 in
    rw (turned.1, turned.2)
    (turned_at_script a.size a.initial.now a.script.now (policy_passed (goal.at.returns-in_err-script_checked c).In_ok-policy_checked) _
    c.in_err-script_checked.ensures)

-- the script passed
script_passed : (c : In_ok-script_checked) → Ok tt ≡ checking (script_value (some c.args.script.now))
script_passed c = c.in_ok-script_checked.ensures

pub run-requires : goal.run-requires
run-requires c =
    let a = c.args in
    let policy = policy_passed (goal.at.run-requires c).In_ok-policy_checked in (
      starts_sound a.size c.min.ensures c.start.ensures.0 c.list_of.ensures c.start.ensures.1 (accepted_policy a.size a.initial.now a.script.now policy),
      accepted_script a.size a.initial.now a.script.now policy (script_passed (goal.at.run-requires c).In_ok-script_checked),
    )

pub returns : goal.returns
returns c =
    let a = c.args in
    c.run.ensures
    ∙ ap outcome_of
    (ap₂ (λ (size : ℕ) (l : List ℕ). policy.replay size l (commands_of (script_of a.script.now))) c.min.ensures (c.start.ensures.0 ∙ c.list_of.ensures))
    ∙ runs a.size a.initial.now a.script.now (policy_passed (goal.at.returns c).In_ok-policy_checked) (script_passed (goal.at.returns c).In_ok-script_checked)
