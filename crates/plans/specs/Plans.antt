-- The planners' answers: rules kept, commands and bytes written, and every byte of the lent place. Assumes nothing.
use Rattle.std.specs.Prelude.{Result, Ok, Err, ℕ, ◌+◌, ◌*◌, ◌≡◌, List, [], length}
use Rattle.std.proofs.Math.Option.{Option, none, some}
use Rattle.policy.specs.AppendDelete.{kept_run, plan_one}
use Rattle.policy.specs.InsertDeleteMove.{kept_two, plan_two}
use Rattle.deployment.specs.Checked.{refusal_numbers}
use Rattle.deployment.specs.Values.{Script, numbers_of, script_bytes}
use Rattle.deployment.specs.Contents.{Contents}
use Rattle.deployment.specs.File.{field_bytes, script_tag}
use Rattle.deployment.specs.FieldValues.{Left, filled, sent}
use Rattle.plans.specs.declared.Plan.{Plan}
use Rattle.deployment.specs.declared.Refusal.{Refusal}

-- a script and how many rules it keeps
pub record Made : Type 0 where
  pub kept : ℕ
  pub script : Script

-- the two planners
unfoldable pub made_one_of : List ℕ → List ℕ → Made
made_one_of initial target =
    record {
      kept = length (kept_run initial target);
      script = record { type = 1; commands = plan_one initial target };
    }

unfoldable pub made_one : Contents → Made
made_one c = made_one_of c.initial c.target

unfoldable pub made_two_of : List ℕ → List ℕ → Option (List ℕ) → Made
made_two_of initial target keep =
    record {
      kept = length (kept_two initial target keep);
      script = record { type = 2; commands = plan_two initial target keep };
    }

unfoldable pub made_two : Contents → Made
made_two c = made_two_of c.initial c.target c.keep

-- "told whether a keep list is absent or empty": the keep list of a field value
unfoldable pub keep_of : Option (List ℕ) → Option (List ℕ)
keep_of none = none
keep_of (some value) = some (numbers_of value)

-- "a script field": tag 05, length, type byte, records
unfoldable pub script_field : Made → List ℕ
script_field made = field_bytes script_tag (script_bytes made.script)

-- rules kept, commands, bytes written
unfoldable pub plan_of : Made → Plan
plan_of made = record { kept = made.kept; commands = length made.script.commands; bytes = length (script_field made) }

-- the same of a field under way, by counts: four bytes before the records, five a command
unfoldable pub plan_for : ℕ → ℕ → Plan
plan_for kept commands = record { kept = kept; commands = commands; bytes = 4 + 5 * commands }

-- a plan and its field, at the front of a place that had room for it
pub record Placed (made : Made) (plan : Plan) (before after : List ℕ) : Type 0 where
  pub answer : plan ≡ plan_of made
  pub place : after ≡ filled before (script_field made)

-- the numbers of a refusal to plan; none where there is a plan
unfoldable pub planned_numbers : Result Plan Refusal → List ℕ
planned_numbers (Ok plan) = []
planned_numbers (Err refusal) = refusal_numbers refusal

-- "and last 13": a plan and its field
unfoldable pub sent_plan : Plan → List ℕ → List ℕ → Left (Result Plan Refusal)
sent_plan plan field place = sent Err (Ok plan) field place

unfoldable pub placed_plan : Made → List ℕ → Left (Result Plan Refusal)
placed_plan made place = sent_plan (plan_of made) (script_field made) place
