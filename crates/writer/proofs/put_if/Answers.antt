-- `writer::put_if` meets its contract: each way is the definitions' own case. Assumes nothing.
use native.Mathlib.Omega.{arith}
use mathlib.Core.Path.{refl}
use Rattle.deployment.specs.FieldValues.{lent}
use Rattle.writer.specs.Answers.{field_if, bytes_if}
use Rattle.writer.proofs.put_if.Goals as goal

pub put_field-requires : goal.put_field-requires
unfolding bytes_if lent
put_field-requires c =
    let room = rw c.in-Some.is at c.requires in
    (room.0, omega (arith, room.1))

pub returns-in-Some : goal.returns-in-Some
unfolding field_if lent
returns-in-Some c = rw c.in-Some.is c.put_field.ensures

pub returns-in-None : goal.returns-in-None
unfolding field_if lent
returns-in-None c = rw c.in-None.is (record { place = refl; end = omega arith })
