-- The whole answer of each entry over a file and over field values, with every byte of the lent place: what the crates below answer for
-- accepted contents, and the refusal of what is read. Assumes nothing.
use Rattle.std.specs.Prelude.{Result, Ok, Err, ℕ, Bool, cond, List, length}
use Rattle.std.proofs.Math.Option.{Option}
use Rattle.policy.specs.Policy.{Policy, under, decide, matching}
use Rattle.policy.specs.Rule.{Rule}
use Rattle.policy.specs.Replay.{Replayed, replay}
use Rattle.policy.specs.Judge.{verdict}
use Rattle.policy.specs.declared.Decision.{Decision}
use Rattle.policy.specs.declared.Flow.{Flow}
use Rattle.deployment.specs.Checked.{Checked, good, ◌>>=◌}
use Rattle.deployment.specs.Contents.{Contents, initial_policy, target_policy}
use Rattle.deployment.specs.File.{Reading, file_of}
use Rattle.deployment.specs.FieldValues.{
  FieldValues,
  catalogue_value,
  policy_value,
  default_value,
  read_values,
  answered,
  answered_at_zero,
  Left,
  left_alone,
  Writing,
  writing,
}
use Rattle.deployment.specs.declared.Refusal.{Refusal}
use Rattle.policy.specs.declared.Verdict.{Verdict}
use Rattle.plans.specs.declared.Plan.{Plan}
use Rattle.flows.specs.Flows.{flows_decided}
use Rattle.replay.specs.Answers.{commands_of}
use Rattle.last_list.specs.Last.{Ran, turned, replay_left, replayed_over}
use Rattle.plans.specs.Plans.{Made, placed_plan}

-- "A flow is decided by the first rule that matches": by the target policy, if asked for, or else by the initial one
unfoldable pub decided_contents : Bool → Flow → Contents → Decision
decided_contents of-target flow c = decide (matching c.catalogue flow) (cond of-target (target_policy c) (initial_policy c))

unfoldable pub decided_reading : Bool → Flow → Reading → Result Decision Refusal
decided_reading of-target flow reading = answered (λ c. Ok (decided_contents of-target flow c)) Err reading

-- rules and a policy over them, which is a list together with its default: "4 for rules not of 27 bytes each, 7, then 5 and 6 rule by rule, then
-- 4, 8, 9", 4, 50 (02, L1)
unfoldable pub policy_tested : List ℕ → List ℕ → Option (List ℕ) → Checked (List Rule × Policy)
policy_tested rules value value_of_default = do
  catalogue ← catalogue_value rules
  list ← policy_value (length catalogue) value
  default ← default_value value_of_default
  good (catalogue, under default list)

-- what decides flows
unfoldable pub deciding_values : List ℕ → List ℕ → Option (List ℕ) → Checked (Flow → Decision)
deciding_values rules value value_of_default = do
  passed ← policy_tested rules value value_of_default
  good (λ flow. decide (matching passed.0 flow) passed.1)

unfoldable pub decided_values : List ℕ → List ℕ → Option (List ℕ) → Flow → Checked Decision
decided_values rules value value_of_default flow = do
  decides ← deciding_values rules value value_of_default
  good (decides flow)

unfoldable pub decided_at_zero : Checked Decision → Result Decision Refusal
decided_at_zero read = answered_at_zero Ok Err read

-- many flows
unfoldable pub flows_reading : Bool → List ℕ → Reading → List ℕ → Writing
flows_reading of-target flows reading place =
    answered (λ c. flows_decided (λ flow. decided_contents of-target flow c) flows place) (left_alone Err place) reading

unfoldable pub flows_at_zero : Checked (Flow → Decision) → List ℕ → List ℕ → Writing
flows_at_zero read flows place = answered_at_zero (λ decides. flows_decided decides flows place) (left_alone Err place) read

-- "replays from the initial policy"
unfoldable pub replayed_contents : Contents → Replayed
replayed_contents c = replay (length c.catalogue) c.initial (commands_of c.script)

unfoldable pub replayed_reading : Reading → List ℕ → Left Ran
replayed_reading reading place = answered (λ c. replay_left place (replayed_contents c)) (left_alone turned place) reading

-- the same tests before those of the script; a command edits the list and leaves the default
unfoldable pub replayed_values : List ℕ → List ℕ → Option (List ℕ) → List ℕ → Checked Replayed
replayed_values rules initial value_of_default script = do
  passed ← policy_tested rules initial value_of_default
  replayed_over (length passed.0) initial script

-- a plan
unfoldable pub planned : (Contents → Made) → Reading → List ℕ → Left (Result Plan Refusal)
planned planner reading place = answered (λ c. placed_plan (planner c) place) (left_alone Err place) reading

-- the verdict
unfoldable pub judged_contents : Contents → Result Verdict Refusal
judged_contents c = Ok (verdict (length c.catalogue) c.initial c.target (commands_of c.script))

unfoldable pub judged_reading : Reading → Result Verdict Refusal
judged_reading reading = answered judged_contents Err reading

-- the file
unfoldable pub written_values : FieldValues → List ℕ → Writing
written_values v place = answered (λ c. writing (file_of c) place) (left_alone Err place) (read_values v)
