-- Decisions written one after another: three bytes each, they fill the first bytes of the place; and how flows are answered by one
-- policy: turned away for their length, for the room, or decided. Assumes nothing.
use Prim.Native.Nat.{ℕ, ◌+◌, ◌*◌, ◌/◌, ◌%◌, ◌≤◌, ◌<◌}
use native.Mathlib.Numerals.{add-one}
use native.Mathlib.Omega.{arith}
use mathlib.Core.Path.{◌≡◌, refl, sym, ◌∙◌, ap}
use mathlib.Core.List.{List, [], map}
use borrow.Author.Tests.{eq-eqb, ne_eqb}
use lib.ListN.{length, take, get_or, length-map}
use lib.Seq.{sets, take-suc, take-length}
use Rattle.policy.specs.declared.Action.{Action}
use Rattle.policy.specs.declared.Action.TheVariants.{Deny, Permit}
use Rattle.policy.specs.declared.Decision.{Decision}
use Rattle.policy.specs.declared.Flow.{Flow}
use Rattle.deployment.specs.Bytes.{number_at, joined}
use Rattle.deployment.specs.Values.{action_number}
use Rattle.deployment.specs.FieldValues.{Stored, left_by, filled, writing}
use Rattle.deployment.specs.Flows.{flow_of, flows_of, decision_bytes, decisions_bytes}
use Rattle.deployment.specs.declared.Why.TheVariants.{Length, Room}
use Rattle.std.specs.Prelude.{Ok, Err}
use Rattle.deployment.proofs.Flows.{flows_length, made_of_flow, length_decision, length_decisions, decisions_snoc}
use Rattle.deployment.proofs.Records.{first_byte, number_there}
use Rattle.deployment.proofs.Storing.{stored_more, stored_fills}
use Rattle.deployment.proofs.Lent as lent
use Rattle.flows.specs.Flows.{flows_decided}
use Rattle.flows.specs.Claims.{flow_at}

-- a flow by its five numbers
pub flow_read : (value : List ℕ) → length value ≡ 13
    → (record {
      protocol = get_or value 0 0;
      source = number_at 1 4 value;
      source_port = number_at 5 2 value;
      destination = number_at 7 4 value;
      destination_port = number_at 11 2 value;
    })
    ≡ flow_of value
unfolding flow_of
flow_read value long =
    rw (
      first_byte value (omega (arith, long)),
      number_there 1 4 value (omega (arith, long)),
      number_there 5 2 value (omega (arith, long)),
      number_there 7 4 value (omega (arith, long)),
      number_there 11 2 value (omega (arith, long)),
    )

-- an action's number is a byte
pub action_is_byte : (a : Action) → action_number a % 256 ≡ action_number a
unfolding action_number
action_is_byte Deny = refl
action_is_byte Permit = refl

module _ (decides : Flow → Decision) (flows place : List ℕ) where
  -- the decision of each flow
  abbrev pub decisions : List Decision
  decisions = map decides (flows_of flows)

  pub how_many : length decisions ≡ length flows / 13
  how_many = length-map (flows_of flows) decides ∙ flows_length flows

  -- Nothing is written at first, then one decision more, and in the end all of them.
  abbrev pub Put : List ℕ → ℕ → Type 0
  Put now k = Stored place 0 (decisions_bytes (take k decisions)) now (3 * k)

  pub none_put : Put place 0
  unfolding decisions_bytes joined
  none_put = record { place = refl; end = refl }

  pub one_more_put : (now : List ℕ) (k : ℕ) {bytes : List ℕ} {flow : Flow} {d : Decision} → k < length flows / 13
      → flow ≡ flow_at k flows → d ≡ decides flow → bytes ≡ decision_bytes d → Put now k
      → Put (sets now (3 * k) bytes) (k + 1)
  one_more_put now k {bytes} {flow} {d} inside read decided is so_far =
      let further : 3 * (k + 1) ≡ 3 * k + 3 = omega arith in
      let kth : get_or decisions k (decides (flow_of [])) ≡ d =
      made_of_flow decides flows k inside ∙ sym (decided ∙ ap decides read) in
      rw (
        further,
        add-one k,
        take-suc decisions k (decides (flow_of [])) (omega (arith, how_many)),
        kth,
        decisions_snoc (take k decisions) d,
      )
      (stored_more so_far (record { place = rw is; end = omega (arith, length_decision d) }))

  pub size_needed : length (decisions_bytes decisions) ≡ 3 * (length flows / 13)
  size_needed = length_decisions decisions ∙ ap (λ (n : ℕ). 3 * n) how_many

  pub all_put : (now : List ℕ) (k : ℕ) → k ≡ length flows / 13 → 3 * (length flows / 13) ≤ length place → Put now k
      → now ≡ filled place (decisions_bytes decisions)
  all_put now k all room put =
      let whole : take k decisions ≡ decisions = rw (all, ← how_many) (take-length decisions) in
      stored_fills (rw whole at put) (omega (arith, size_needed))

  -- How flows are answered.
  pub uneven : ¬ (length flows % 13 ≡ 0) → left_by (Err (record { why = Length; at = 0 })) place ≡ flows_decided decides flows place
  unfolding flows_decided
  uneven h = rw (ne_eqb (length flows % 13) 0 h)

  module _ (whole : length flows % 13 ≡ 0) (n : ℕ) (needed : n ≡ 3 * (length flows / 13)) where
    abbrev output : List ℕ
    output = decisions_bytes decisions

    pub no_room : length place < n → left_by (Err (record { why = Room; at = n })) place ≡ flows_decided decides flows place
    unfolding flows_decided writing
    no_room small =
        rw (eq-eqb (length flows % 13) 0 whole) (lent.no_room Err (Ok (length output)) output place n (size_needed ∙ sym needed) small)

    pub written : {now : List ℕ} → n ≤ length place → now ≡ filled place (decisions_bytes decisions)
        → left_by (Ok n) now ≡ flows_decided decides flows place
    unfolding flows_decided writing
    written room is =
        let long : length output ≡ n = size_needed ∙ sym needed in
        rw (eq-eqb (length flows % 13) 0 whole, long) (rw long at (lent.with_room Err (Ok n) output place n long room is))
