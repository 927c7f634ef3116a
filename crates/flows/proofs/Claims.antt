-- The claims about many flows. The idea: there are three answers to flows that something decides, by the two tests of lengths; and a
-- place that fits two bytes reads back with its decision. Assumes nothing.
use Prim.Native.Nat.{ℕ, ◌*◌, ◌/◌, ◌%◌, ◌≤◌, ◌<◌}
use native.Mathlib.Omega.{arith}
use mathlib.Core.Path.{◌≡◌, refl, sym, ◌∙◌, ap}
use mathlib.Core.Logic.{◌↔◌}
use mathlib.Core.List.{List, []}
use borrow.Author.Tests.{eqb-true, eqb-false, leb-true, leb-false}
use lib.Dec.{eqb, leb}
use lib.ListN.{length, drop, get_or}
use lib.Seq.{drop_at}
use Rattle.policy.specs.declared.Decision.{Decision}
use Rattle.policy.specs.declared.Flow.{Flow}
use Rattle.policy.proofs.Tests.{by_test}
use Rattle.deployment.specs.Checked.{why_number}
use Rattle.deployment.specs.Flows.{flow_of, decision_of, decision_bytes, decisions_bytes}
use Rattle.deployment.specs.FieldValues.{Writing, left_by, filled, writing}
use Rattle.deployment.specs.declared.Why.TheVariants.{Length, Room}
use Rattle.deployment.specs.declared.Refusal.{Refusal}
use Rattle.std.specs.Prelude.{Ok, Err}
use Rattle.deployment.proofs.Flows.{made_of_flow, decision_at_lem, decision_reads_back}
use Rattle.flows.specs.Flows.{flows_decided}
use Rattle.flows.specs.Claims.{
  flow_at,
  decision_at,
  TurnedWith,
  FlowsNotWhole,
  FlowsWithoutRoom,
  FlowsWritten,
  KeepsRest,
  FlowsKeepRest,
  Short,
  EachDecided,
}
use Rattle.flows.proofs.ManyFlows.{decisions, how_many, size_needed}

-- The three answers to flows.
module _ {ℓ} (P : Writing → Type ℓ) (decides : Flow → Decision) (flows place : List ℕ) where
  flows_cases : (¬ (length flows % 13 ≡ 0) → P (left_by (Err (record { why = Length; at = 0 })) place))
      → (length flows % 13 ≡ 0 → length place < 3 * (length flows / 13)
      → P (left_by (Err (record { why = Room; at = 3 * (length flows / 13) })) place))
      → (length flows % 13 ≡ 0 → 3 * (length flows / 13) ≤ length place
      → P (left_by (Ok (3 * (length flows / 13))) (filled place (decisions_bytes (decisions decides flows place)))))
      → P (flows_decided decides flows place)
  unfolding flows_decided writing
  flows_cases uneven small fits =
      let size = size_needed decides flows place in
      by_test (eqb (length flows % 13) 0)
      (λ whole.
      let even = eqb-true (length flows % 13) 0 whole in
      by_test (leb (3 * (length flows / 13)) (length place))
      (λ t. rw (whole, size, t) (fits even (leb-true (3 * (length flows / 13)) (length place) t)))
      (λ f. rw (whole, size, f) (small even (leb-false (3 * (length flows / 13)) (length place) f))))
      (λ odd. rw odd (uneven (eqb-false (length flows % 13) 0 odd)))

-- An answer is one of the two.
pub not_both {ℓ} : {A : Type ℓ} {n : ℕ} {refusal : Refusal} → Err refusal ≡ Ok n → A
not_both e = absurd (let z : ◌≡◌ {A = ℕ} 0 1 = cc in omega arith)

turned_with : (r : Refusal) (number at : ℕ) → TurnedWith (Err r) number at ↔ ((why_number r.why ≡ number) × (r.at ≡ at))
turned_with r number at = (
  λ t. let same : t.0 ≡ r = cc in (ap (λ (s : Refusal). why_number s.why) (sym same) ∙ t.2, ap (λ (s : Refusal). s.at) (sym same) ∙ t.3),
  λ h. (r, refl, h.0, h.1),
)

-- The refusals by their numbers, and what is written.
pub flows_not_whole : FlowsNotWhole
flows_not_whole decides flows place at =
    flows_cases (λ w. TurnedWith w.answer 4 at ↔ ((¬ (length flows % 13 ≡ 0)) × (at ≡ 0))) decides flows place
    (λ odd. (λ t. (odd, sym ((turned_with (record { why = Length; at = 0 }) 4 at).0 t).1), λ h. (turned_with _ 4 at).1 (refl, sym h.1)))
    (λ whole small. (
      λ t. absurd (omega (arith, ((turned_with (record { why = Room; at = 3 * (length flows / 13) }) 4 at).0 t).0)),
      λ h. absurd (h.0 whole),
    ))
    (λ whole fits. (λ t. not_both (sym t.1), λ h. absurd (h.0 whole)))

pub flows_without_room : FlowsWithoutRoom
flows_without_room decides flows place at =
    flows_cases
    (λ w.
    TurnedWith w.answer 13 at
    ↔ ((length flows % 13 ≡ 0) × (length place < 3 * (length flows / 13)) × (at ≡ 3 * (length flows / 13))))
    decides flows place
    (λ odd. (
      λ t. absurd (omega (arith, ((turned_with (record { why = Length; at = 0 }) 13 at).0 t).0)),
      λ h. absurd (odd h.0),
    ))
    (λ whole small. (
      λ t. (whole, small, sym ((turned_with (record { why = Room; at = 3 * (length flows / 13) }) 13 at).0 t).1),
      λ h. (turned_with _ 13 at).1 (refl, sym h.2),
    ))
    (λ whole fits. (λ t. not_both (sym t.1), λ h. absurd (omega (arith, h.1))))

pub flows_written : FlowsWritten
flows_written decides flows place n =
    flows_cases
    (λ w.
    (w.answer ≡ Ok n)
    ↔ ((length flows % 13 ≡ 0) × (3 * (length flows / 13) ≤ length place) × (n ≡ 3 * (length flows / 13))))
    decides flows place
    (λ odd. (λ e. not_both e, λ h. absurd (odd h.0)))
    (λ whole small. (λ e. not_both e, λ h. absurd (omega (arith, h.1))))
    (λ whole fits. (λ e. let same : n ≡ 3 * (length flows / 13) = cc in (whole, fits, same), λ h. rw h.2))

-- The rest of the place.
pub flows_keep_rest : FlowsKeepRest
unfolding filled
flows_keep_rest decides flows place =
    flows_cases (KeepsRest place) decides flows place (λ odd. (λ n e. not_both e, λ refusal e. refl))
    (λ whole small. (λ n e. not_both e, λ refusal e. refl))
    (λ whole fits. (
      λ n e.
          let output = decisions_bytes (decisions decides flows place) in
          let same : 3 * (length flows / 13) ≡ n = cc in
          let long : length output ≡ n = size_needed decides flows place ∙ same in
          drop_at output (drop (length output) place) n long ∙ ap (λ (m : ℕ). drop m place) long,
      λ refusal e. not_both (sym e),
    ))

-- The k-th three bytes are the decision of the k-th flow.
module _ (flows place : List ℕ) (n k : ℕ) (inside : k < length flows / 13) where
  kth_decided : (decides : Flow → Decision) → Short decides
      → decides (flow_at k flows) ≡ decision_at k (filled place (decisions_bytes (decisions decides flows place)))
  unfolding filled
  kth_decided decides short =
      let all = decisions decides flows place in
      let rest = drop (length (decisions_bytes all)) place in
      let kth : get_or all k (decides (flow_of [])) ≡ decides (flow_at k flows) = made_of_flow decides flows k inside in
      sym
      (ap decision_of (decision_at_lem all rest k (decides (flow_of [])) (omega (arith, how_many decides flows place)) ∙ ap decision_bytes kth)
      ∙ decision_reads_back (decides (flow_at k flows)) (short (flow_at k flows)))

pub each_decided : EachDecided
each_decided flows place n k inside decides short =
    flows_cases (λ w. w.answer ≡ Ok n → decides (flow_at k flows) ≡ decision_at k w.place) decides flows place
    (λ odd e. not_both e) (λ whole small e. not_both e) (λ whole fits e. kth_decided flows place n k inside decides short)
