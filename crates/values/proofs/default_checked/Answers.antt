-- `default_checked` meets its contract: its tests are those of the definition, one after another; the number of a value of one byte is that
-- byte. Assumes nothing.
use native.Mathlib.Omega.{arith}
use mathlib.Core.Path.{◌≡◌, sym, ◌∙◌}
use mathlib.Core.List.{List, [], ◌∷◌}
use Prim.Native.Nat.{ℕ}
use lib.ListN.{length, get_or}
use borrow.Author.Tests.{ne_eqb}
use Rattle.deployment.specs.Bytes.{number}
use Rattle.deployment.specs.Values.{default_fits}
use Rattle.deployment.specs.Contents.{default_read}
use Rattle.deployment.specs.FieldValues.{default_value}
use Rattle.deployment.proofs.Records.{number_one}
use Rattle.catalogue.specs.Answers.{checking}
use Rattle.values.proofs.default_checked.Goals as goal

one_byte : (value : List ℕ) → length value ≡ 1 → number value ≡ get_or value 0 0
one_byte [] long = absurd (omega arith)
one_byte (b ∷ []) long = sym (number_one b)
one_byte (b ∷ c ∷ value) long = absurd (omega arith)

pub returns-then-value-ne-DEFAULT_BYTES : goal.returns-then-value-ne-DEFAULT_BYTES
unfolding checking default_value
returns-then-value-ne-DEFAULT_BYTES c = rw (ne_eqb (length c.args.value.now) 1 c.if-value-ne-DEFAULT_BYTES.true)

pub returns-then-value-ne-PERMIT : goal.returns-then-value-ne-PERMIT
unfolding checking default_value default_read default_fits
returns-then-value-ne-PERMIT c =
    let long = c.if-value-ne-DEFAULT_BYTES.false in
    let value = c.args.value.now in
    rw (long, ne_eqb (number value) 1 (λ is. c.if-value-ne-PERMIT.true (sym (one_byte value long) ∙ is)))

pub returns : goal.returns
unfolding checking default_value default_read default_fits
returns c =
    let long = c.if-value-ne-DEFAULT_BYTES.false in
    let value = c.args.value.now in
    rw (long, one_byte value long ∙ c.if-value-ne-PERMIT.false)

pub bounds-value-0 : goal.bounds-value-0
bounds-value-0 c = omega (arith, c.if-value-ne-DEFAULT_BYTES.false)
