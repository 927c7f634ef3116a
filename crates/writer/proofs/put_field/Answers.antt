-- `writer::put_field` meets its contract: the three stores of the head and the copy are a run of stores of the field's bytes.
-- Assumes nothing.
use native.Mathlib.Omega.{arith}
use mathlib.Core.Path.{◌∙◌}
use lib.ListN.{length-set}
use Rattle.deployment.proofs.ReadBack.{length_field}
use Rattle.writer.proofs.Pieces.{field_put}
use Rattle.writer.proofs.put_field.Goals as goal

pub bounds-place-at-2 : goal.bounds-place-at-2
bounds-place-at-2 c = simp length-set (omega arith)

pub bounds-place-at-3 : goal.bounds-place-at-3
bounds-place-at-3 c = simp length-set (omega arith)

pub shape_of-place : goal.shape_of-place
shape_of-place c = c.store.auto.place ∙ simp length-set

pub returns : goal.returns
returns c =
    let args = c.args in
    record {
      place = c.store.ensures
          ∙ field_put args.place.now args.at args.tag args.value.now (omega (arith, c.ranges.tag)) (omega arith);
      end = omega (arith, length_field args.tag args.value.now);
    }
