-- What a customer buys of many flows decided at once, about the definitions. Each claim is a statement; proofs/Claims.antt has, for each,
-- a proof of the same name in small letters with hyphens. Assumes nothing.
use Rattle.std.specs.Prelude.{Ok, Err, ℕ, ◌<◌, ◌≡◌, Bool, List}
use Rattle.std.proofs.Math.Option.{Option}
use Rattle.policy.specs.declared.Flow.{Flow}
use Rattle.deployment.specs.File.{read_file}
use Rattle.deployment.specs.Properties.{AreBytes}
use Rattle.deployment.specs.declared.Refusal.{Refusal}
use Rattle.flows.specs.Claims.{flow_count, flow_at, decision_at, KeepsRest}
use Rattle.entries.specs.Answers.{decided_reading, deciding_values, decided_values, decided_at_zero, flows_reading, flows_at_zero}

-- For k below the number of flows, the k-th three bytes of the place are what `files::decide` answers for the k-th flow.
abbrev pub FileFlowsDecided : Type 0
FileFlowsDecided =
    (of-target : Bool) (file flows place : List ℕ) (n k : ℕ) → AreBytes file
    → (flows_reading of-target flows (read_file file) place).answer ≡ Ok n → k < flow_count flows
    → decided_reading of-target (flow_at k flows) (read_file file)
    ≡ Ok (decision_at k (flows_reading of-target flows (read_file file) place).place)

-- .. and what `lists::decide` answers.
abbrev pub ValuesFlowsDecided : Type 0
ValuesFlowsDecided =
    (rules policy : List ℕ) (default : Option (List ℕ)) (flows place : List ℕ) (n k : ℕ)
    → (flows_at_zero (deciding_values rules policy default) flows place).answer ≡ Ok n → k < flow_count flows
    → decided_at_zero (decided_values rules policy default (flow_at k flows))
    ≡ Ok (decision_at k (flows_at_zero (deciding_values rules policy default) flows place).place)

-- What turns a single flow away turns them all away, with the same number at the same position, whatever the flows and the place are.
abbrev pub FileFlowsRefused : Type 0
FileFlowsRefused =
    (of-target : Bool) (file flows place : List ℕ) (flow : Flow) (refusal : Refusal)
    → decided_reading of-target flow (read_file file) ≡ Err refusal
    → (flows_reading of-target flows (read_file file) place).answer ≡ Err refusal

abbrev pub ValuesFlowsRefused : Type 0
ValuesFlowsRefused =
    (rules policy : List ℕ) (default : Option (List ℕ)) (flows place : List ℕ) (flow : Flow) (refusal : Refusal)
    → decided_at_zero (decided_values rules policy default flow) ≡ Err refusal
    → (flows_at_zero (deciding_values rules policy default) flows place).answer ≡ Err refusal

abbrev pub FileFlowsKeepRest : Type 0
FileFlowsKeepRest = (of-target : Bool) (file flows place : List ℕ) → KeepsRest place (flows_reading of-target flows (read_file file) place)

abbrev pub ValuesFlowsKeepRest : Type 0
ValuesFlowsKeepRest = (rules policy : List ℕ) (default : Option (List ℕ)) (flows place : List ℕ) → KeepsRest place (flows_at_zero (deciding_values rules policy default) flows place)
