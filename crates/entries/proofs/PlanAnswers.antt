-- The planners' entries themselves, by their contracts as the checker reads them: any two answers that one allows are equal, with every byte of the
-- place; what an answer says of the place; and what it says when it turns away. Assumes nothing.
use Prim.Native.Nat.{ℕ, ◌≤◌}
use native.Mathlib.Omega.{arith}
use mathlib.Core.Path.{◌≡◌, refl, sym, ◌∙◌, ap}
use mathlib.Core.Logic.{◌⊎◌, ⊎_elim, ◌↔◌}
use mathlib.Core.List.{List, [], ◌∷◌}
use lib.ListN.{length}
use Rattle.deployment.specs.Contents.{Contents}
use Rattle.deployment.specs.File.{Reading, accepted, refused, reading_numbers, read_file}
use Rattle.deployment.specs.FieldValues.{FieldValues, read_values, Left, left_by, TooSmall}
use Rattle.deployment.specs.Properties.{AreBytes, Valid, TurnedAway, ValuesFail}
use Rattle.deployment.specs.Claims.{AreValues}
use Rattle.deployment.proofs.Reader.{written_again, refusals, file_numbers_lem}
use Rattle.deployment.proofs.FieldValues.{values_written_again}
use Rattle.deployment.proofs.RefusedValues.{refused_values, values_numbers}
use Rattle.deployment.proofs.Lent.{same_left}
use Rattle.plans.specs.Plans.{Made, made_one, made_two, script_field, planned_numbers, placed_plan}
use Rattle.plans.specs.Claims.{HoldsOne, HoldsTwo, enough_bytes}
use Rattle.plans.specs.declared.Plan.{Plan}
use Rattle.std.specs.Prelude.{Result, Ok}
use Rattle.deployment.specs.declared.Refusal.{Refusal}
use Rattle.plans.proofs.Claims.{one_holds, two_holds, room_for_every}
use Rattle.entries.specs.Answers.{planned}
use Rattle.entries.specs.PlanClaims.{Refuses}
use Rattle.entries.proofs.PlanClaims.{turned_away_keeps, refused_for_room, refused_for_reading}
use Rattle.entries.proofs.files.plan_one.Reads as one-file
use Rattle.entries.proofs.files.plan_two.Reads as two-file
use Rattle.entries.proofs.lists.plan_one.Reads as one-values
use Rattle.entries.proofs.lists.plan_two.Reads as two-values

-- One answer.
pub one_answer_one_file : (κ : _) (a : _) (r s : Result Plan Refusal) (e f : _) → one-file.Post κ a r e → one-file.Post κ a s f
    → (r ≡ s) × (e.1.0.now ≡ f.1.0.now)
one_answer_one_file κ a r s e f p q = same_left p q

pub one_answer_two_file : (κ : _) (a : _) (r s : Result Plan Refusal) (e f : _) → two-file.Post κ a r e → two-file.Post κ a s f
    → (r ≡ s) × (e.1.0.now ≡ f.1.0.now)
one_answer_two_file κ a r s e f p q = same_left p q

pub one_answer_one_values : (κ : _) (a : _) (r s : Result Plan Refusal) (e f : _) → one-values.Post κ a r e → one-values.Post κ a s f
    → (r ≡ s) × (e.1.0.now ≡ f.1.0.now)
one_answer_one_values κ a r s e f p q = same_left p q

pub one_answer_two_values : (κ : _) (a : _) (r s : Result Plan Refusal) (e f : _) → two-values.Post κ a r e → two-values.Post κ a s f
    → (r ≡ s) × (e.1.0.now ≡ f.1.0.now)
one_answer_two_values κ a r s e f p q = same_left p q

-- A plan is answered for accepted contents only, and the place then holds what is claimed of it.
module _ (planner : Contents → Made) (Held : Contents → Plan → List ℕ → List ℕ → Type 0)
    (held : (c : Contents) (place : List ℕ) (plan : Plan) → Valid c → (placed_plan (planner c) place).answer ≡ Ok plan
    → Held c plan place (placed_plan (planner c) place).place) where
  done_held : (reading : Reading) (place after : List ℕ) (plan : Plan) → ((c : Contents) → reading ≡ accepted c → Valid c)
      → left_by (Ok plan) after ≡ planned planner reading place
      → (c : Contents) × (reading ≡ accepted c) × Held c plan place after
  unfolding planned
  done_held (refused refusal) place after plan valid e =
      absurd (let z : ◌≡◌ {A = ℕ} 0 1 = cc (ap (λ (left : Left (Result Plan Refusal)). left.answer) e) in omega arith)
  done_held (accepted c) place after plan valid e =
      (c, refl, rw (ap (λ (left : Left (Result Plan Refusal)). left.place) e) (held c place plan (valid c refl) (sym (ap (λ (left : Left (Result Plan Refusal)). left.answer) e))))

pub a_plan_one_from_a_file_holds : (κ : _) (a : _) (plan : Plan) (e : _) → one-file.Post κ a (Ok plan) e → AreBytes a.0.now
    → (c : Contents) × (read_file a.0.now ≡ accepted c) × HoldsOne c plan a.1.0.now e.1.0.now
a_plan_one_from_a_file_holds κ a plan e p bytes =
    done_held made_one HoldsOne one_holds (read_file a.0.now) _ _ plan (λ c read. (written_again a.0.now c bytes read).0) p

pub a_plan_two_from_a_file_holds : (κ : _) (a : _) (plan : Plan) (e : _) → two-file.Post κ a (Ok plan) e → AreBytes a.0.now
    → (c : Contents) × (read_file a.0.now ≡ accepted c) × HoldsTwo c plan a.1.0.now e.1.0.now
a_plan_two_from_a_file_holds κ a plan e p bytes =
    done_held made_two HoldsTwo two_holds (read_file a.0.now) _ _ plan (λ c read. (written_again a.0.now c bytes read).0) p

pub a_plan_one_from_values_holds : (κ : _) (a : _) (plan : Plan) (e : _) → one-values.Post κ a (Ok plan) e → AreValues a.0.now
    → (c : Contents) × (read_values a.0.now ≡ accepted c) × HoldsOne c plan a.1.0.now e.1.0.now
a_plan_one_from_values_holds κ a plan e p are =
    done_held made_one HoldsOne one_holds (read_values a.0.now) _ _ plan (λ c read. (values_written_again a.0.now c are read).0) p

pub a_plan_two_from_values_holds : (κ : _) (a : _) (plan : Plan) (e : _) → two-values.Post κ a (Ok plan) e → AreValues a.0.now
    → (c : Contents) × (read_values a.0.now ≡ accepted c) × HoldsTwo c plan a.1.0.now e.1.0.now
a_plan_two_from_values_holds κ a plan e p are =
    done_held made_two HoldsTwo two_holds (read_values a.0.now) _ _ plan (λ c read. (values_written_again a.0.now c are read).0) p

-- What an entry promises when it turns away, of either planner and of what it reads: a file or field values, by their rows.
module _ (planner : Contents → Made) (room : (c : Contents) → Valid c → length (script_field (planner c)) ≤ enough_bytes)
    (reading : Reading) (valid : (c : Contents) → reading ≡ accepted c → Valid c) (Row : ℕ → ℕ → Type 0)
    (rows : (number at : ℕ) → (reading_numbers reading ≡ number ∷ at ∷ []) ↔ Row number at)
    (numbers : (number at : ℕ) → reading_numbers reading ≡ number ∷ at ∷ [] → (number ≤ 11) ⊎ (number ≡ 50)) where
  refuses : (answer : Result Plan Refusal) (before after : List ℕ) → left_by answer after ≡ planned planner reading before
      → Refuses planner reading Row answer before after
  refuses answer before after p =
      let is : answer ≡ (planned planner reading before).answer = ap (λ (left : Left (Result Plan Refusal)). left.answer) p in
      let small : (at : ℕ) → (planned_numbers answer ≡ 13 ∷ at ∷ []) ↔ TooSmall (λ c. script_field (planner c)) reading before at =
      λ at. rw is (refused_for_room planner reading before at (λ e. ⊎_elim (λ low. omega arith) (λ is. omega arith) (numbers 13 at e))) in
      record {
        keeps =
            λ number at turned.
            ap (λ (left : Left (Result Plan Refusal)). left.place) p ∙ turned_away_keeps planner reading before number at (sym (ap planned_numbers is) ∙ turned);
        room = small;
        row =
            λ number at other.
            let read = refused_for_reading planner reading before number at other in
            (λ e. (rows number at).0 (read.0 (sym (ap planned_numbers is) ∙ e)), λ row. ap planned_numbers is ∙ read.1 ((rows number at).1 row));
        enough =
            λ long at turned.
            let (c, read, short, needs) = (small at).0 turned in omega (arith, room c (valid c read), long, short);
      }

-- over a file
module _ (planner : Contents → Made) (room : (c : Contents) → Valid c → length (script_field (planner c)) ≤ enough_bytes)
    (file : List ℕ) (bytes : AreBytes file) where
  file_refuses : (answer : Result Plan Refusal) (before after : List ℕ) → left_by answer after ≡ planned planner (read_file file) before
      → Refuses planner (read_file file) (TurnedAway file) answer before after
  file_refuses =
      refuses planner room (read_file file) (λ c read. (written_again file c bytes read).0) (TurnedAway file)
      (λ number at. refusals file number at bytes) (file_numbers_lem file)

pub plan_one_file_refuses : (κ : _) (a : _) (r : Result Plan Refusal) (e : _) → one-file.Post κ a r e → AreBytes a.0.now
    → Refuses made_one (read_file a.0.now) (TurnedAway a.0.now) r a.1.0.now e.1.0.now
plan_one_file_refuses κ a r e p bytes = file_refuses made_one (λ c valid. (room_for_every c valid).0) a.0.now bytes r _ _ p

pub plan_two_file_refuses : (κ : _) (a : _) (r : Result Plan Refusal) (e : _) → two-file.Post κ a r e → AreBytes a.0.now
    → Refuses made_two (read_file a.0.now) (TurnedAway a.0.now) r a.1.0.now e.1.0.now
plan_two_file_refuses κ a r e p bytes = file_refuses made_two (λ c valid. (room_for_every c valid).1) a.0.now bytes r _ _ p

-- over field values
abbrev ValuesRow : FieldValues → ℕ → ℕ → Type 0
ValuesRow v number at = ValuesFail v number × (at ≡ 0)

module _ (planner : Contents → Made) (room : (c : Contents) → Valid c → length (script_field (planner c)) ≤ enough_bytes)
    (v : FieldValues) (are : AreValues v) where
  values_refuse : (answer : Result Plan Refusal) (before after : List ℕ) → left_by answer after ≡ planned planner (read_values v) before
      → Refuses planner (read_values v) (ValuesRow v) answer before after
  values_refuse =
      refuses planner room (read_values v) (λ c read. (values_written_again v c are read).0) (ValuesRow v) (refused_values v)
      (λ number at e. values_numbers ((refused_values v number at).0 e).0)

pub plan_one_values_refuses : (κ : _) (a : _) (r : Result Plan Refusal) (e : _) → one-values.Post κ a r e → AreValues a.0.now
    → Refuses made_one (read_values a.0.now) (ValuesRow a.0.now) r a.1.0.now e.1.0.now
plan_one_values_refuses κ a r e p are = values_refuse made_one (λ c valid. (room_for_every c valid).0) a.0.now are r _ _ p

pub plan_two_values_refuses : (κ : _) (a : _) (r : Result Plan Refusal) (e : _) → two-values.Post κ a r e → AreValues a.0.now
    → Refuses made_two (read_values a.0.now) (ValuesRow a.0.now) r a.1.0.now e.1.0.now
plan_two_values_refuses κ a r e p are = values_refuse made_two (λ c valid. (room_for_every c valid).1) a.0.now are r _ _ p
