-- What a customer buys of the judge: the table of verdicts, for two policies that name no rule twice. Each claim is a statement;
-- proofs/Claims.antt has, for each, a proof of the same name in small letters with hyphens; crate `entries` says it of each entry. Assumes
-- nothing.
use Rattle.std.specs.Prelude.{Result, ℕ, ◌≡◌, ◌↔◌, ◌≢◌, List, [], ◌∷◌, length}
use Rattle.policy.specs.Judge.{verdict, verdict_numbers}
use Rattle.policy.specs.Properties.{Distinct, Full, Leads, After}
use Rattle.policy.specs.Claims.{BreaksAt, FirstUnordered, AllOrdered}
use Rattle.policy.specs.declared.Command.{Command}
use Rattle.policy.specs.declared.Verdict.{Verdict}
use Rattle.deployment.specs.Checked.{refusal_numbers}
use Rattle.deployment.specs.declared.Refusal.{Refusal}
use Rattle.judge.specs.Answers.{judged_numbers}

-- No two answers share their number and values.
abbrev pub JudgedNumbersDiffer : Type 0
JudgedNumbersDiffer = (a b : Result Verdict Refusal) → judged_numbers a ≡ judged_numbers b → a ≡ b

-- 01, "Verdict", "Given exactly when": the rows of the table, each with its number and values; `size` is the catalogue's count of rules
pub data Row (size : ℕ) (initial target : List ℕ) (script : List Command) : List ℕ → Type 0 where
  -- 20 to 23
  breaks : (number at : ℕ) → BreaksAt size initial script number at → Row size initial target script (number ∷ at ∷ [])
  elsewhere : (l : List ℕ) → Leads size initial script l → l ≢ target → Row size initial target script (24 ∷ length script ∷ [])
  unordered : (at place : ℕ) → Leads size initial script target → FirstUnordered size initial target script at place
      → Row size initial target script (30 ∷ at ∷ place ∷ [])
  not_full : Leads size initial script target → AllOrdered size initial target script
      → (k : ℕ) (l : List ℕ) → After size initial script k l → ¬ Full initial target l
      → Row size initial target script (31 ∷ [])
  safe : Leads size initial script target → AllOrdered size initial target script
      → ((k : ℕ) (l : List ℕ) → After size initial script k l → Full initial target l)
      → Row size initial target script (32 ∷ [])

-- One is the verdict, with its values, exactly when its row of the table says so.
abbrev pub VerdictByRow : Type 0
VerdictByRow =
    (size : ℕ) (initial target : List ℕ) (script : List Command) → Distinct initial → Distinct target → (numbers : List ℕ)
    → (verdict_numbers (verdict size initial target script) ≡ numbers) ↔ Row size initial target script numbers

-- No verdict has the numbers of a refusal.
abbrev pub VerdictNoRefusal : Type 0
VerdictNoRefusal = (v : Verdict) (refusal : Refusal) → verdict_numbers v ≡ refusal_numbers refusal → ⊥
