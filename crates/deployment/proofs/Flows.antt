-- Flows and decisions in bytes: how many there are, the k-th of them by its part of the bytes, and both read back.
-- Assumes nothing.
use Prim.Native.Nat.{ℕ, zero, suc, ◌+◌, ◌*◌, ◌/◌, ◌≤◌, ◌<◌}
use native.Mathlib.Nat.{mul_comm}
use native.Mathlib.Omega.{arith}
use mathlib.Core.Path.{◌≡◌, refl, ◌∙◌, ap}
use mathlib.Core.List.{List, [], ◌∷◌, ◌++◌, map, append_assoc}
use lib.ListN.{length, drop, get_or, length-append, length-drop, length-map, get_or-map}
use lib.Seq.{take_at, drop_at, drop-drop, take-append-le, drop-append-le}
use Rattle.policy.specs.declared.Action.{Action}
use Rattle.policy.specs.declared.Action.TheVariants.{Deny, Permit}
use Rattle.policy.specs.declared.Decision.{Decision}
use Rattle.policy.specs.declared.Flow.{Flow}
use Rattle.deployment.specs.Bytes.{number, number_from, bytes_of, part, chunks, joined}
use Rattle.deployment.specs.Values.{action_of, action_number}
use Rattle.deployment.specs.Flows.{
  flow_width,
  decision_width,
  flow_of,
  flow_bytes,
  flows_of,
  decision_bytes,
  decision_of,
  decisions_bytes,
}
use Rattle.deployment.specs.Claims.{FlowReadsBack, DecisionReadsBack}
use Rattle.deployment.proofs.Bytes.{length_bytes, number_bytes, length_chunks}
use Rattle.deployment.proofs.Records.{read_at}
use Rattle.deployment.proofs.Fields.{joined_snoc, map_snoc}

-- Flows.
pub flows_length : (value : List ℕ) → length (flows_of value) ≡ length value / flow_width
unfolding flows_of
flows_length value =
    length-map (chunks flow_width (length value / flow_width) value) flow_of ∙ length_chunks flow_width (length value / flow_width) value

-- what is made of the k-th
pub made_of_flow : {A : Type 0} (f : Flow → A) (value : List ℕ) (k : ℕ) → k < length value / flow_width
    → get_or (map f (flows_of value)) k (f (flow_of [])) ≡ f (flow_of (part (flow_width * k) flow_width value))
unfolding flows_of
made_of_flow f value k h =
    get_or-map f (flows_of value) k (flow_of [])
    ∙ ap f (read_at flow_of flow_width (length value / flow_width) value k h)
    ∙ ap (λ (at : ℕ). f (flow_of (part at flow_width value))) (mul_comm k flow_width)

-- Decisions.
pub length_decision : (d : Decision) → length (decision_bytes d) ≡ decision_width
unfolding decision_bytes
length_decision d =
    omega (
      arith,
      length-append (bytes_of 1 (action_number d.action)) (bytes_of 2 d.place),
      length_bytes 1 (action_number d.action),
      length_bytes 2 d.place,
    )

pub decisions_snoc : (l : List Decision) (d : Decision) → decisions_bytes (l ++ (d ∷ [])) ≡ decisions_bytes l ++ decision_bytes d
unfolding decisions_bytes
decisions_snoc l d = ap joined (map_snoc decision_bytes l d) ∙ joined_snoc (map decision_bytes l) (decision_bytes d)

pub length_decisions : (l : List Decision) → length (decisions_bytes l) ≡ decision_width * length l
unfolding decisions_bytes joined
length_decisions [] = refl
length_decisions (d ∷ l) =
    omega (arith, length-append (decision_bytes d) (decisions_bytes l), length_decision d, length_decisions l)

-- a part that ends where the first bytes do
pub part_in_front : (start size : ℕ) (u v : List ℕ) → start + size ≤ length u → part start size (u ++ v) ≡ part start size u
unfolding part
part_in_front start size u v h =
    rw (drop-append-le start u v (omega arith), take-append-le size (drop start u) v (rw length-drop (omega arith)))

-- the k-th, whatever stands behind them
pub decision_at_lem : (l : List Decision) (rest : List ℕ) (k : ℕ) (none : Decision) → k < length l
    → part (decision_width * k) decision_width (decisions_bytes l ++ rest) ≡ decision_bytes (get_or l k none)
unfolding part decisions_bytes joined
decision_at_lem [] rest k none h = absurd (omega arith)
decision_at_lem (d ∷ l) rest zero none h =
    rw append_assoc (take_at (decision_bytes d) (decisions_bytes l ++ rest) decision_width (length_decision d))
decision_at_lem (d ∷ l) rest (suc k) none h =
    let further : decision_width * suc k ≡ decision_width + decision_width * k = omega arith in
    rw (further, ← drop-drop, append_assoc, drop_at (decision_bytes d) (decisions_bytes l ++ rest) decision_width (length_decision d))
    (decision_at_lem l rest k none (omega arith))

-- Read back.
action_back : (a : Action) → action_of (number (bytes_of 1 (action_number a))) ≡ a
unfolding action_of number number_from bytes_of action_number
action_back Deny = refl
action_back Permit = refl

pub decision_reads_back : DecisionReadsBack
unfolding decision_of decision_bytes part bytes_of
decision_reads_back d h =
    let place : number (part 1 2 (decision_bytes d)) ≡ d.place = number_bytes 2 d.place h in
    λ j. record { action = action_back d.action j; place = place j }

pub flow_reads_back : FlowReadsBack
unfolding flow_of flow_bytes part bytes_of
flow_reads_back f fits =
    let protocol : number (part 0 1 (flow_bytes f)) ≡ f.protocol = number_bytes 1 f.protocol fits.protocol in
    let source : number (part 1 4 (flow_bytes f)) ≡ f.source = number_bytes 4 f.source fits.source in
    let source-port : number (part 5 2 (flow_bytes f)) ≡ f.source_port = number_bytes 2 f.source_port fits.source_port in
    let destination : number (part 7 4 (flow_bytes f)) ≡ f.destination = number_bytes 4 f.destination fits.destination in
    let destination-port : number (part 11 2 (flow_bytes f)) ≡ f.destination_port =
    number_bytes 2 f.destination_port fits.destination_port in
    λ j.
    record {
      protocol = protocol j;
      source = source j;
      source_port = source-port j;
      destination = destination j;
      destination_port = destination-port j;
    }
