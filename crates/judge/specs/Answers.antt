-- The judge's answers by their numbers. Assumes nothing.
use Rattle.std.specs.Prelude.{Result, Ok, Err, ℕ, List}
use Rattle.policy.specs.Judge.{verdict_numbers}
use Rattle.deployment.specs.Checked.{refusal_numbers}
use Rattle.policy.specs.declared.Verdict.{Verdict}
use Rattle.deployment.specs.declared.Refusal.{Refusal}

-- the number of each answer, and its values: a verdict's, or a refusal's with its position
unfoldable pub judged_numbers : Result Verdict Refusal → List ℕ
judged_numbers (Ok v) = verdict_numbers v
judged_numbers (Err refusal) = refusal_numbers refusal
