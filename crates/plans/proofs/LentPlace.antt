-- A plan sent to the lent place: where the room is enough the copy is the field, and the rest keeps its bytes. The idea: a plan's bytes
-- are the front of the place that it was made in. Assumes nothing.
use Prim.Native.Nat.{ℕ, ◌-◌, ◌≤◌, ◌<◌}
use native.Mathlib.Omega.{arith}
use mathlib.Core.Path.{◌≡◌, refl, ◌∙◌, ap}
use mathlib.Core.List.{List}
use lib.ListN.{length, take, drop, length-append}
use lib.Seq.{sets, take_at}
use Rattle.deployment.specs.FieldValues.{left_by, filled}
use Rattle.deployment.specs.declared.Why.TheVariants.{Room}
use Rattle.deployment.proofs.Storing.{stored_fills}
use Rattle.deployment.proofs.Lent as lent
use Rattle.plans.specs.Plans.{Made, script_field, plan_of, Placed, sent_plan, placed_plan}
use Rattle.plans.specs.declared.Plan.{Plan}
use Rattle.std.specs.Prelude.{Ok, Err}

module _ (plan : Plan) (field place : List ℕ) where
  -- 13
  pub no_room : length place < length field → left_by (Err (record { why = Room; at = length field })) place ≡ sent_plan plan field place
  unfolding sent_plan
  no_room small = lent.no_room Err (Ok plan) field place (length field) refl small

  -- the field at the front of the place
  pub field_sent : (next : List ℕ) → length field ≤ length place → next ≡ sets place 0 field → left_by (Ok plan) next ≡ sent_plan plan field place
  unfolding sent_plan
  field_sent next room put =
      let fills : next ≡ filled place field = stored_fills (record { place = put; end = refl }) (omega arith) in
      lent.with_room Err (Ok plan) field place (length field) refl room fills

-- A plan and the place that it was made in.
module _ {made : Made} {plan : Plan} {old field : List ℕ} (is : Placed made plan old field) where
  pub plan_inside : plan.bytes ≤ length field
  unfolding plan_of filled
  plan_inside =
      omega (arith, ap (λ (p : Plan). p.bytes) is.answer, ap length is.place, length-append (script_field made) (drop (length (script_field made)) old))

  -- the part of it from index 0 to the plan's bytes, sent
  pub plan_sent : (place : List ℕ) → sent_plan plan (take (plan.bytes - 0) field) place ≡ placed_plan made place
  unfolding placed_plan plan_of filled
  plan_sent place =
      let whole : plan.bytes - 0 ≡ plan.bytes = omega arith in
      let front : take (length (script_field made)) field ≡ script_field made =
      ap (take (length (script_field made))) is.place ∙ take_at (script_field made) (drop (length (script_field made)) old) (length (script_field made)) (λ i. length (script_field made)) in
      rw (whole, is.answer, front)
