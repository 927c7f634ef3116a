-- Field values as callers give them: those that may be absent come with a flag. Assumes nothing.
use Rattle.std.specs.Prelude.{ℕ, Bool, true, false, cond, List}
use Rattle.std.proofs.Math.Option.{Option, none, some}
use Rattle.deployment.specs.FieldValues.{FieldValues}

unfoldable pub there : {A : Type 0} → Option A → Bool
there none = false
there (some a) = true

-- "Entries that take lists take field values, and are told whether a keep list is absent or empty", and so for the default and the script
unfoldable pub given : Bool → List ℕ → Option (List ℕ)
given is value = cond is (some value) none

unfoldable pub values_given : List ℕ → List ℕ → List ℕ → Bool → List ℕ → Bool → List ℕ → Bool → List ℕ → FieldValues
values_given rules initial target has-default default has-keep keep has-script script =
    record {
      rules = rules;
      initial = initial;
      target = target;
      default = given has-default default;
      keep = given has-keep keep;
      script = given has-script script;
    }
