-- What a customer buys of many flows decided at once, about the definition. Each claim is a statement; proofs/Claims.antt has, for each, a
-- proof of the same name in small letters with hyphens. Assumes nothing.
use Rattle.std.specs.Prelude.{Result, Ok, Err, ℕ, ◌*◌, ◌/◌, ◌%◌, ◌≤◌, ◌<◌, ◌≡◌, ◌↔◌, List, length, drop}
use Rattle.policy.specs.declared.Decision.{Decision}
use Rattle.policy.specs.declared.Flow.{Flow}
use Rattle.deployment.specs.Checked.{why_number}
use Rattle.deployment.specs.Bytes.{part}
use Rattle.deployment.specs.Flows.{flow_width, decision_width, flow_of, decision_of}
use Rattle.deployment.specs.FieldValues.{Writing}
use Rattle.deployment.specs.declared.Refusal.{Refusal}
use Rattle.flows.specs.Flows.{flows_decided}

-- how many flows there are, and the k-th of them
abbrev pub flow_count : List ℕ → ℕ
flow_count flows = length flows / flow_width

abbrev pub flow_at : ℕ → List ℕ → Flow
flow_at k flows = flow_of (part (flow_width * k) flow_width flows)

-- the decision in the k-th three bytes of a place
abbrev pub decision_at : ℕ → List ℕ → Decision
decision_at k place = decision_of (part (decision_width * k) decision_width place)

-- turned away with this number of the table, at this position
abbrev pub TurnedWith : Result ℕ Refusal → ℕ → ℕ → Type 0
TurnedWith answer number at = (refusal : Refusal) × (answer ≡ Err refusal) × (why_number refusal.why ≡ number) × (refusal.at ≡ at)

-- Where something decides, 4 is given exactly to flows not of 13 bytes each, at position 0,
abbrev pub FlowsNotWhole : Type 0
FlowsNotWhole =
    (decides : Flow → Decision) (flows place : List ℕ) (at : ℕ)
    → TurnedWith (flows_decided decides flows place).answer 4 at ↔ ((¬ (length flows % flow_width ≡ 0)) × (at ≡ 0))

-- 13 exactly where the place is smaller than three bytes a flow, at the bytes needed,
abbrev pub FlowsWithoutRoom : Type 0
FlowsWithoutRoom =
    (decides : Flow → Decision) (flows place : List ℕ) (at : ℕ)
    → TurnedWith (flows_decided decides flows place).answer 13 at
    ↔ ((length flows % flow_width ≡ 0) × (length place < decision_width * flow_count flows) × (at ≡ decision_width * flow_count flows))

-- and otherwise three bytes a flow are written.
abbrev pub FlowsWritten : Type 0
FlowsWritten =
    (decides : Flow → Decision) (flows place : List ℕ) (n : ℕ)
    → ((flows_decided decides flows place).answer ≡ Ok n)
    ↔ ((length flows % flow_width ≡ 0) × (decision_width * flow_count flows ≤ length place) × (n ≡ decision_width * flow_count flows))

-- "on success the output fills the first bytes and the rest keep theirs"; "When turned away, every lent place keeps its bytes"
abbrev pub KeepsRest : List ℕ → Writing → Type 0
KeepsRest place left =
    ((n : ℕ) → left.answer ≡ Ok n → drop n left.place ≡ drop n place)
    × ((refusal : Refusal) → left.answer ≡ Err refusal → left.place ≡ place)

abbrev pub FlowsKeepRest : Type 0
FlowsKeepRest = (decides : Flow → Decision) (flows place : List ℕ) → KeepsRest place (flows_decided decides flows place)

-- a place of two bytes
abbrev pub Short : (Flow → Decision) → Type 0
Short decides = (flow : Flow) → (decides flow).place < 65536

-- For k below the number of flows, the k-th three bytes of the place are the decision of the k-th flow.
abbrev pub EachDecided : Type 0
EachDecided =
    (flows place : List ℕ) (n k : ℕ) → k < flow_count flows → (decides : Flow → Decision) → Short decides
    → (flows_decided decides flows place).answer ≡ Ok n → decides (flow_at k flows) ≡ decision_at k (flows_decided decides flows place).place
