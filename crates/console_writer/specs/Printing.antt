-- What the writers of console text need to know: a script that a file can hold, how long its text is, and what a planner leaves. Assumes nothing.
use Rattle.std.specs.Prelude.{Result, Err, ℕ, ◌≡◌, ◌⊎◌, List}
use Rattle.std.proofs.Math.Option.{some}
use Rattle.console.specs.declared.Maker.{Maker}
use Rattle.deployment.specs.Values.{Script, script_of}
use Rattle.deployment.specs.Properties.{Scripted}
use Rattle.deployment.specs.FieldValues.{Writing, unwritten}
use Rattle.deployment.specs.declared.Refusal.{Refusal}
use Rattle.plans.specs.Plans.{Made}
use Rattle.plans.specs.declared.Plan.{Plan}
use Rattle.listing.specs.Printing.{Reads}
use Rattle.console_text.specs.Answers.{text_left}

-- no text of a script is longer, for either maker
abbrev pub most_text : ℕ
most_text = 49152

-- a script value that is accepted
abbrev pub Fit : List ℕ → Type 0
Fit value = (script : Script) × (script_of value ≡ some script) × Scripted script

-- a planner's answer: turned away, or a plan whose script stands in the field
abbrev pub Answered : Result Plan Refusal → List ℕ → Type 0
Answered answer field = ((refusal : Refusal) × (answer ≡ Err refusal)) ⊎ ((made : Made) × Reads answer field made)

-- the text that belongs to it
pub record PlanText (m : Maker) (answer : Result Plan Refusal) (field before : List ℕ) (left : Writing) : Type 0 where
  pub refused : (refusal : Refusal) → answer ≡ Err refusal → left ≡ unwritten refusal before
  pub written : (made : Made) → Reads answer field made → Scripted made.script → left ≡ text_left m made.script.commands before
