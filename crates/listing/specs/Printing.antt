-- What the printers of whole texts need to know: how long a text is, and what is planned. Assumes nothing.
use Rattle.std.specs.Prelude.{Result, Ok, ℕ, ◌-◌, ◌≤◌, ◌≡◌, List, length}
use Rattle.std.proofs.Math.Option.{some}
use Rattle.deployment.specs.Bytes.{part}
use Rattle.deployment.specs.Values.{script_of}
use Rattle.deployment.specs.File.{head_bytes}
use Rattle.plans.specs.Plans.{Made}
use Rattle.plans.specs.declared.Plan.{Plan}
use Rattle.deployment.specs.declared.Refusal.{Refusal}

-- no text is longer
abbrev pub most_text : ℕ
most_text = 65536

-- a plan that was made, and a script field that reads as its commands
pub record Reads (answer : Result Plan Refusal) (field : List ℕ) (made : Made) : Type 0 where
  pub plan : Plan
  pub done : answer ≡ Ok plan
  pub keeps : plan.kept ≡ made.kept
  pub headed : head_bytes ≤ plan.bytes
  pub inside : plan.bytes ≤ length field
  pub script : script_of (part head_bytes (plan.bytes - head_bytes) field) ≡ some made.script
