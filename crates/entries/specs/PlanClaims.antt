-- What a customer buys of the planners' entries when they turn away; what stands in the place else is said in crate `plans`. Each claim is
-- a statement; proofs/PlanClaims.antt has, for each, a proof of the same name in small letters with hyphens, and proofs/PlanAnswers.antt says
-- it of each entry. Assumes nothing.
use Rattle.std.specs.Prelude.{Result, ℕ, ◌≤◌, ◌≡◌, ◌↔◌, List, [], ◌∷◌, length}
use Rattle.deployment.specs.Contents.{Contents}
use Rattle.deployment.specs.File.{Reading, reading_numbers}
use Rattle.deployment.specs.FieldValues.{TooSmall}
use Rattle.plans.specs.Plans.{Made, script_field, planned_numbers}
use Rattle.plans.specs.Claims.{enough_bytes}
use Rattle.plans.specs.declared.Plan.{Plan}
use Rattle.deployment.specs.declared.Refusal.{Refusal}
use Rattle.entries.specs.Answers.{planned}

-- "When turned away, every lent place keeps its bytes"
abbrev pub TurnedAwayKeeps : Type 0
TurnedAwayKeeps =
    (planner : Contents → Made) (reading : Reading) (place : List ℕ) (number at : ℕ)
    → planned_numbers (planned planner reading place).answer ≡ number ∷ at ∷ [] → (planned planner reading place).place ≡ place

-- Refusal 13: "lent room smaller than what is to be written", at the bytes needed, and only where contents are accepted
abbrev pub RefusedForRoom : Type 0
RefusedForRoom =
    (planner : Contents → Made) (reading : Reading) (place : List ℕ) (at : ℕ) → ¬ (reading_numbers reading ≡ 13 ∷ at ∷ [])
    → (planned_numbers (planned planner reading place).answer ≡ 13 ∷ at ∷ []) ↔ TooSmall (λ c. script_field (planner c)) reading place at

-- Every other number is that of what is read, however large the place is.
abbrev pub RefusedForReading : Type 0
RefusedForReading =
    (planner : Contents → Made) (reading : Reading) (place : List ℕ) (number at : ℕ) → ¬ (number ≡ 13)
    → (planned_numbers (planned planner reading place).answer ≡ number ∷ at ∷ []) ↔ (reading_numbers reading ≡ number ∷ at ∷ [])

-- All of this of an entry, which reads a file or field values: it keeps the place when it turns away, 13 stands for room alone, each other
-- number for its row of the table, and a place that is large enough is never too small
pub record Refuses (planner : Contents → Made) (reading : Reading) (Row : ℕ → ℕ → Type 0) (answer : Result Plan Refusal) (before after : List ℕ)
    : Type 0 where
  pub keeps : (number at : ℕ) → planned_numbers answer ≡ number ∷ at ∷ [] → after ≡ before
  pub room : (at : ℕ) → (planned_numbers answer ≡ 13 ∷ at ∷ []) ↔ TooSmall (λ c. script_field (planner c)) reading before at
  pub row : (number at : ℕ) → ¬ (number ≡ 13) → (planned_numbers answer ≡ number ∷ at ∷ []) ↔ Row number at
  pub enough : enough_bytes ≤ length before → (at : ℕ) → ¬ (planned_numbers answer ≡ 13 ∷ at ∷ [])
