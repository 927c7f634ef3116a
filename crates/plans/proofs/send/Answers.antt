-- `send` meets its contract: no room, or the field's bytes are stored from the front of the place on. Assumes nothing.
use native.Mathlib.Omega.{arith}
use Rattle.plans.proofs.LentPlace.{no_room, field_sent}
use Rattle.plans.proofs.send.Goals as goal

pub returns-then-place-field : goal.returns-then-place-field
returns-then-place-field c =
    let args = c.args in
    no_room args.plan args.field.now args.place.now c.if-place-field.true

pub returns : goal.returns
returns c =
    let args = c.args in
    field_sent args.plan args.field.now args.place.now _ (omega arith) c.store.ensures
