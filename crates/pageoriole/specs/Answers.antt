-- What a C function leaves: what is told, and every byte of the lent place, for each answer of the entries that write. Assumes nothing.
use Rattle.std.specs.Prelude.{Result, ℕ, ◌≡◌, List}
use Rattle.policy.specs.declared.Flow.{Flow}
use Rattle.deployment.specs.FieldValues.{Left, Writing}
use Rattle.last_list.specs.Last.{Ran}
use Rattle.plans.specs.declared.Plan.{Plan}
use Rattle.deployment.specs.declared.Refusal.{Refusal}
use Rattle.told.specs.Answers.{Told, Tells, written_told, ran_told, planned_told}

-- what is told, and every byte of the lent place
pub record Outcome : Type 0 where
  pub told : Told
  pub place : List ℕ

pub record Leaves (o : Outcome) (returned : ℕ) (before after place : List ℕ) : Type 0 where
  pub tells : Tells o.told returned before after
  pub held : place ≡ o.place

-- the outcome of each entry that writes
abbrev pub write_outcome : Writing → Outcome
write_outcome w = record { told = written_told w.answer; place = w.place }

abbrev pub replay_outcome : Left Ran → Outcome
replay_outcome l = record { told = ran_told l.answer; place = l.place }

abbrev pub plan_outcome : Left (Result Plan Refusal) → Outcome
plan_outcome l = record { told = planned_told l.answer; place = l.place }

-- "A flow is five numbers."
abbrev pub flow_of : ℕ → ℕ → ℕ → ℕ → ℕ → Flow
flow_of protocol source source_port destination destination_port =
    record {
      protocol = protocol;
      source = source;
      source_port = source_port;
      destination = destination;
      destination_port = destination_port;
    }
