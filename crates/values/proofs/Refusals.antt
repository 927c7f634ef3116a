-- A number is answered to field values exactly when its row of the table holds: of the definitions, and of `values_checked`, by its contract
-- as the checker reads it. The idea: an answer has the numbers of the reading that it shows. Assumes nothing.
use Prim.Native.Nat.{ℕ}
use mathlib.Core.Path.{◌≡◌, refl}
use mathlib.Core.Logic.{◌↔◌}
use mathlib.Core.List.{[], ◌∷◌}
use Rattle.deployment.specs.Checked.{Checked, good, bad, refusal_numbers}
use Rattle.deployment.specs.Contents.{Contents}
use Rattle.deployment.specs.File.{reading_numbers}
use Rattle.deployment.specs.FieldValues.{values_read, at_zero, read_values}
use Rattle.deployment.specs.Properties.{ValuesFail}
use Rattle.deployment.proofs.RefusedValues.{refused_values}
use Rattle.catalogue.specs.Answers.{checking, checking_numbers}
use Rattle.std.specs.Prelude.{Result}
use Rattle.deployment.specs.declared.Why.{Why}
use Rattle.values.specs.Claims.{RefusedCheck}
use Rattle.values.proofs.lists.values_checked.Reads as values-checked

pub checking_numbers_lem : (read : Checked Contents) → checking_numbers (checking read) ≡ reading_numbers (at_zero read)
unfolding checking checking_numbers at_zero reading_numbers refusal_numbers
checking_numbers_lem (good c) = refl
checking_numbers_lem (bad why) = refl

pub refused_check : RefusedCheck
unfolding read_values
refused_check v number at = rw (checking_numbers_lem (values_read v)) (refused_values v number at)

pub values_checked_answers_the_row : (κ : _) (a : _) (r : Result Unit Why) (e : _) → values-checked.Post κ a r e → (number at : ℕ)
    → (checking_numbers r ≡ number ∷ at ∷ []) ↔ (ValuesFail a.0.now number × (at ≡ 0))
values_checked_answers_the_row κ a r e p number at = rw p (refused_check a.0.now number at)
