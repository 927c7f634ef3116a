-- `script_checked` meets its contract: its tests are those of the definition, one after another: the length, the type, the commands.
-- Assumes nothing.
use Prim.Native.Nat.{ℕ, ◌≤◌}
use native.Mathlib.Omega.{arith}
use mathlib.Core.Path.{◌≡◌, sym, ◌∙◌}
use mathlib.Core.Bool.{true}
use Rattle.policy.specs.Command.{is_type}
use Rattle.deployment.specs.Bytes.{number, part}
use Rattle.deployment.specs.Values.{script_fits}
use Rattle.deployment.specs.FieldValues.{script_value}
use Rattle.deployment.proofs.Tests.{says_script}
use Rattle.deployment.proofs.Records.{first_byte}
use Rattle.catalogue.specs.Answers.{checking}
use Rattle.values.proofs.Scripts.{wrong_type, wrong_command, right_script}
use Rattle.values.proofs.script_checked.Goals as goal
use Rattle.values.proofs.script_checked.Goals.{Else-not-is_type}

-- where the length is right there is a type byte
at_least_one : (size : ℕ) → script_fits size ≡ true → 1 ≤ size
at_least_one size right = let h = (says_script size).0 right in omega (arith, h.1)

pub bounds-value-0 : goal.bounds-value-0
bounds-value-0 c = at_least_one _ (sym c.script_fits.ensures ∙ c.if-not-script_fits.false)

pub returns-then-not-script_fits : goal.returns-then-not-script_fits
unfolding checking script_value
returns-then-not-script_fits c = rw (sym c.script_fits.ensures ∙ c.if-not-script_fits.true)

-- after the second test there are scripts of the type
typed : (c : Else-not-is_type) → is_type (number (part 0 1 c.args.value.now)) ≡ true
typed c =
    rw (first_byte c.args.value.now (at_least_one _ (sym c.script_fits.ensures ∙ c.if-not-script_fits.false)))
    (sym c.is_type.ensures ∙ c.if-not-is_type.false)

pub returns-then-not-is_type : goal.returns-then-not-is_type
returns-then-not-is_type c =
    let value = c.args.value.now in
    let right = sym c.script_fits.ensures ∙ c.if-not-script_fits.false in
    sym (wrong_type value right (rw (first_byte value (at_least_one _ right)) (sym c.is_type.ensures ∙ c.if-not-is_type.true)))

pub returns-then-not-all_commands : goal.returns-then-not-all_commands
returns-then-not-all_commands c =
    sym (wrong_command c.args.value.now (sym c.script_fits.ensures ∙ c.if-not-script_fits.false)
    (typed (goal.at.returns-then-not-all_commands c).Else-not-is_type)
    (sym c.all_commands.ensures ∙ c.if-not-all_commands.true))

pub returns : goal.returns
returns c =
    sym (right_script c.args.value.now (sym c.script_fits.ensures ∙ c.if-not-script_fits.false)
    (typed (goal.at.returns c).Else-not-is_type)
    (sym c.all_commands.ensures ∙ c.if-not-all_commands.false))
