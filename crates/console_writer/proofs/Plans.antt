-- The text of a plan for a file: what a planner answers for the file and leaves in the field, and the text that belongs to it. All is said of any
-- planner whose script a file can hold and whose field reads back. Assumes nothing.
use Prim.Native.Nat.{ℕ, ◌-◌}
use native.Mathlib.Omega.{arith}
use mathlib.Core.Path.{◌≡◌, refl, sym, ◌∙◌, ap}
use mathlib.Core.Logic.{◌⊎◌, inl, inr}
use mathlib.Core.List.{List}
use lib.ListN.{length, take, drop}
use Rattle.console.specs.declared.Maker.{Maker}
use Rattle.deployment.specs.Values.{script_of}
use Rattle.deployment.specs.Contents.{Contents}
use Rattle.deployment.specs.File.{Reading, accepted, refused, read_file, head_bytes}
use Rattle.deployment.specs.FieldValues.{Left, left_by, left_alone, Writing, unwritten}
use Rattle.deployment.specs.Properties.{AreBytes, Scripted, Valid}
use Rattle.deployment.specs.declared.Refusal.{Refusal}
use Rattle.std.specs.Prelude.{Result, Ok, Err}
use Rattle.deployment.proofs.Lent.{turned_away, for_contents}
use Rattle.deployment.proofs.Reader.{written_again}
use Rattle.replay.specs.Answers.{commands_of}
use Rattle.plans.specs.Plans.{Made}
use Rattle.plans.specs.Claims.{enough_bytes}
use Rattle.plans.specs.declared.Plan.{Plan}
use Rattle.entries.specs.Answers.{planned}
use Rattle.listing.specs.Printing.{Reads}
use Rattle.listing.proofs.PlanTexts.{Prints, planned_reads, value_reads}
use Rattle.console_text.specs.Answers.{text_left, text_of_reading, text_of_plan}
use Rattle.console_writer.specs.Printing.{Answered, PlanText}

-- An answer is one of the two.
pub done_or_turned : {answer : (Result Plan Refusal)} {plan : Plan} {refusal : Refusal} → answer ≡ Ok plan → answer ≡ Err refusal → ⊥
done_or_turned {plan = plan} {refusal} done turned =
    let both : Ok plan ≡ Err refusal = sym done ∙ turned in
    let z : ◌≡◌ {A = ℕ} 0 1 = cc in
    omega arith

pub one_refusal : {answer : (Result Plan Refusal)} {refusal other : Refusal} → answer ≡ Err refusal → answer ≡ Err other → refusal ≡ other
one_refusal {refusal = refusal} {other} is also = let both : Err refusal ≡ Err other = sym is ∙ also in cc

-- the text of the script in the field is that of the plan
pub field_text : (m : Maker) (place : List ℕ) {answer : (Result Plan Refusal)} {field : List ℕ} {made : Made} → Reads answer field made → (plan : Plan)
    → answer ≡ Ok plan
    → text_left m (commands_of (script_of (take (plan.bytes - head_bytes) (drop head_bytes field)))) place ≡ text_left m made.script.commands place
unfolding commands_of
field_text m place reads plan is = rw (value_reads reads plan is)

-- A planner's answer for a file: turned away as the file is, or the plan for its contents, with its script in the field.
abbrev pub Found : (Contents → Made) → List ℕ → Result Plan Refusal → List ℕ → Type 0
Found planner file answer field =
    ((refusal : Refusal) × (read_file file ≡ refused refusal) × (answer ≡ Err refusal))
    ⊎ ((c : Contents) × (read_file file ≡ accepted c) × Reads answer field (planner c) × Scripted (planner c).script)

module _ (planner : Contents → Made) (file : List ℕ) {answer : (Result Plan Refusal)} {field : List ℕ} where
  pub found : ((c : Contents) → Valid c → Prints c planner) → AreBytes file → (before : List ℕ) → length before ≡ enough_bytes
      → length field ≡ enough_bytes → left_by answer field ≡ planned planner (read_file file) before → Found planner file answer field
  unfolding planned
  found prints bytes before long same left = go (read_file file) refl
    where
      go : (reading : Reading) → read_file file ≡ reading → Found planner file answer field
      go (accepted c) e =
          let prints_it = prints c (written_again file c bytes e).0 in
          inr (c, e, planned_reads prints_it before long answer field same (rw e at left), prints_it.right)
      go (refused refusal) e = inl (refusal, e, ap (λ (l : Left (Result Plan Refusal)). l.answer) (rw e at left))

  pub found_answered : Found planner file answer field → Answered answer field
  found_answered (inl (refusal, read, is)) = inl (refusal, is)
  found_answered (inr (c, read, reads, right)) = inr (planner c, reads)

  pub plan_text_lem : (m : Maker) (place : List ℕ) {left : Writing} → Found planner file answer field → PlanText m answer field place left
      → left ≡ text_of_plan m planner file place
  unfolding text_of_plan text_of_reading unwritten
  plan_text_lem m place (inl (refusal, read, is)) text = text.refused refusal is ∙ turned_away _ (left_alone Err place) refusal read
  plan_text_lem m place (inr (c, read, reads, right)) text = for_contents _ (left_alone Err place) read (text.written (planner c) reads right)
