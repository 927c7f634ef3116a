-- What a customer buys of the replay, by document 01's numbers: where a script value leads from a policy value, or where it breaks, and what one
-- command does. proofs/Claims.antt has, for each claim, a proof of the same name in small letters with hyphens, and proofs/Answers.antt says it of
-- each entry. Assumes nothing.
use Rattle.std.specs.Prelude.{Result, Ok, ℕ, min, ◌≡◌, ◌⊎◌, ◌↔◌, List, [], ◌∷◌}
use Rattle.std.proofs.Math.Option.{Option, some}
use Rattle.policy.specs.Policy.{most_rules}
use Rattle.policy.specs.Properties.{Leads}
use Rattle.policy.specs.Claims.{BreaksAt}
use Rattle.policy.specs.declared.Command.{Command}
use Rattle.running.specs.Claims.{ByNumber}
use Rattle.deployment.specs.Checked.{why_number, good, bad}
use Rattle.deployment.specs.Values.{Script}
use Rattle.deployment.specs.FieldValues.{policy_value, script_value}
use Rattle.deployment.specs.declared.Why.{Why}
use Rattle.replay.specs.Answers.{ending_numbers, Outcome, commands_of, replayed}
use Rattle.replay.specs.Stepping.{step_left, Sound}
use Rattle.replay.specs.declared.Stop.{Stop}

-- No two endings share their number and values.
abbrev pub EndingNumbersDiffer : Type 0
EndingNumbersDiffer = (e f : Result Unit (Stop Why)) → ending_numbers e ≡ ending_numbers f → e ≡ f

-- both values are accepted, and their policy and commands have a property
abbrev pub Accepts : ℕ → List ℕ → List ℕ → (List ℕ → List Command → Type 0) → Type 0
Accepts size initial script P =
    (policy : List ℕ) × (read : Option Script)
    × (policy_value size initial ≡ good policy) × (script_value (some script) ≡ good read) × P policy (commands_of read)

-- a value is turned away: the policy's, or, where that is accepted, the script's
abbrev pub TurnsAway : ℕ → List ℕ → List ℕ → Why → Type 0
TurnsAway size initial script why =
    (policy_value size initial ≡ bad why)
    ⊎ ((policy : List ℕ) × (policy_value size initial ≡ good policy) × (script_value (some script) ≡ bad why))

-- It breaks with a number at a step exactly when the command there is the first that fails, with that number; it ends with a list exactly when the
-- script leads to it; it is turned away with the number of the value at fault.
pub record Replays (size : ℕ) (initial script : List ℕ) (o : Outcome) : Type 0 where
  pub breaks : (number at : ℕ) → (ending_numbers o ≡ number ∷ at ∷ [])
      ↔ Accepts size initial script (λ policy commands. BreaksAt size policy commands number at)
  pub leads : (l : List ℕ) → (o ≡ Ok l)
      ↔ Accepts size initial script (λ policy commands. Leads size policy commands l)
  pub turned : (number : ℕ) → (ending_numbers o ≡ number ∷ [])
      ↔ ((why : Why) × (why_number why ≡ number) × TurnsAway size initial script why)

-- sizes above 1,024 are taken for 1,024
abbrev pub ReplayedByNumber : Type 0
ReplayedByNumber = (size : ℕ) (initial script : List ℕ) → Replays (min size most_rules) initial script (replayed size initial script)

-- One command on a sound state: it fails with a number exactly when the table says so, and the list stays; else it makes what document 01 says.
abbrev pub StepByNumber : Type 0
StepByNumber =
    (size : ℕ) (l places : List ℕ) (c : Command) → Sound size l places → ByNumber size l c (step_left size l places c).shown
