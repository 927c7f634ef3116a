-- A replay whose last list is written, and every byte of the lent place. Assumes nothing.
use Rattle.std.specs.Prelude.{Result, Ok, Err, ℕ, List, length}
use Rattle.std.proofs.Math.Option.{some}
use Rattle.policy.specs.Replay.{Replayed, ended, broken, replay}
use Rattle.deployment.specs.Checked.{Checked, good, bad, ◌>>=◌}
use Rattle.deployment.specs.Values.{numbers_bytes}
use Rattle.deployment.specs.FieldValues.{policy_value, script_value, answered_at_zero, Left, left_by, left_alone, sent}
use Rattle.replay.specs.Answers.{commands_of}
use Rattle.deployment.specs.declared.Refusal.{Refusal}
use Rattle.deployment.specs.declared.Why.{Why}
use Rattle.replay.specs.declared.Stop.{Stop}
use Rattle.replay.specs.declared.Stop.TheVariants.{Broken, Turned}

-- what is answered: the bytes of the last list; the fault of a command that fails and its step; or why it is turned away
abbrev pub Ran : Type 0
Ran = Result ℕ (Stop Refusal)

abbrev pub turned : Refusal → Ran
turned refusal = Err (Turned refusal)

-- "all at position 0"
unfoldable pub at_zero : Stop Why → Stop Refusal
at_zero (Broken fault step) = Broken fault step
at_zero (Turned why) = Turned (record { why = why; at = 0 })

-- the last list, as a list value; 20 to 23 with the step: nothing is written
unfoldable pub replay_left : List ℕ → Replayed → Left Ran
replay_left place (ended last) = sent turned (Ok (length (numbers_bytes last))) (numbers_bytes last) place
replay_left place (broken fault step) = left_by (Err (Broken fault step)) place

-- "4, 8, 9 for the initial policy", "4, 11 for the script", and the replay over so many rules
unfoldable pub replayed_over : ℕ → List ℕ → List ℕ → Checked Replayed
replayed_over size initial value = do
  policy ← policy_value size initial
  script ← script_value (some value)
  good (replay size policy (commands_of script))

-- "all at position 0"
unfoldable pub replayed_at_zero : Checked Replayed → List ℕ → Left Ran
replayed_at_zero read place = answered_at_zero (replay_left place) (left_alone turned place) read
