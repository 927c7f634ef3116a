-- The replay of a script value from a policy value: the last list, or why not. Assumes nothing.
use Rattle.std.specs.Prelude.{Result, Ok, Err, ℕ, min, ◌≡◌, List, [], ◌∷◌}
use Rattle.std.proofs.Math.Option.{Option, none, some}
use Rattle.policy.specs.Policy.{most_rules}
use Rattle.policy.specs.declared.Command.{Command}
use Rattle.policy.specs.Command.{fault_number}
use Rattle.policy.specs.Replay.{ended, broken, replay}
use Rattle.policy.specs.Replay as policy
use Rattle.deployment.specs.Checked.{why_number, good, bad}
use Rattle.deployment.specs.Values.{Script, script_of}
use Rattle.deployment.specs.FieldValues.{policy_value, script_value}
use Rattle.running.specs.Running.{view}
use Rattle.deployment.specs.declared.Why.{Why}
use Rattle.running.specs.declared.Running.{Running}
use Rattle.replay.specs.declared.Stop.{Stop}
use Rattle.replay.specs.declared.Stop.TheVariants.{Broken, Turned}

-- the number of each ending, and its values: none where the script ends, 20 to 23 with the step, or a refusal's
unfoldable pub ending_numbers : {A : Type 0} → Result A (Stop Why) → List ℕ
ending_numbers (Ok last) = []
ending_numbers (Err (Broken fault at)) = fault_number fault ∷ at ∷ []
ending_numbers (Err (Turned why)) = why_number why ∷ []

-- what is shown: the last list where the script ends, or why it doesn't
abbrev pub Outcome : Type 0
Outcome = Result (List ℕ) (Stop Why)

unfoldable pub shown_by : Result Running (Stop Why) → Outcome
shown_by (Ok last) = Ok (view last)
shown_by (Err stop) = Err stop

unfoldable pub outcome_of : policy.Replayed → Outcome
outcome_of (ended last) = Ok last
outcome_of (broken fault at) = Err (Broken fault at)

unfoldable pub commands_of : Option Script → List Command
commands_of none = []
commands_of (some script) = script.commands

-- a script value whose commands are all read
abbrev pub Readable : List ℕ → Type 0
Readable value = (script : Script) × (script_of value ≡ some script)

-- 4, 8, 9 for the policy, 4, 11 for the script, then 20 to 23 with the step
unfoldable pub replayed : ℕ → List ℕ → List ℕ → Outcome
replayed size initial script =
    elim (policy_value (min size most_rules) initial) [
      | bad why ↦ Err (Turned why)
      | good policy ↦ elim (script_value (some script)) [
        | bad why ↦ Err (Turned why)
        | good read ↦ outcome_of (replay (min size most_rules) policy (commands_of read))
      ]
    ]
