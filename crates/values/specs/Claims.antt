-- When field values are turned away, by the table's numbers. proofs/Refusals.antt proves it, of the definitions and of `values_checked`
-- itself. Assumes nothing.
use Rattle.std.specs.Prelude.{ℕ, ◌≡◌, ◌↔◌, [], ◌∷◌}
use Rattle.deployment.specs.FieldValues.{FieldValues, values_read}
use Rattle.deployment.specs.Properties.{ValuesFail}
use Rattle.catalogue.specs.Answers.{checking, checking_numbers}

-- field values are turned away exactly as a row says, "all at position 0"
abbrev pub RefusedCheck : Type 0
RefusedCheck =
    (v : FieldValues) (number at : ℕ)
    → (checking_numbers (checking (values_read v)) ≡ number ∷ at ∷ []) ↔ (ValuesFail v number × (at ≡ 0))
