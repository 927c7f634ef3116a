-- `number_of` meets its contract: the bytes so far make a number, which is below as many factors of 256. Assumes nothing.
use native.Mathlib.Omega.{arith}
use mathlib.Core.Path.{refl, ◌∙◌, ap}
use lib.ListN.{take, get_or}
use lib.Seq.{take_all}
use Rattle.deployment.specs.Bytes.{number_from, number}
use Rattle.format.proofs.Numbers.{number_more, number_small, power_more}
use Rattle.format.proofs.number_of.Goals as goal

pub loop-b-init : goal.loop-b-init
unfolding number number_from
loop-b-init c = (refl, omega arith)

pub overflow_mul-n : goal.overflow_mul-n
overflow_mul-n c = omega (arith, number_small c.loop-b.n c.loop-b.b-index c.loop-b.invariant.1 (omega arith))

pub overflow_add-n : goal.overflow_add-n
overflow_add-n c =
    omega (
      arith,
      number_small c.loop-b.n c.loop-b.b-index c.loop-b.invariant.1 (omega arith),
      c.type_inv.bytes c.loop-b.b-index,
    )

pub loop-b-preserved : goal.loop-b-preserved
loop-b-preserved c =
    let bytes = c.args.bytes.now in
    let k = c.loop-b.b-index in
    rw (c.from.ensures, c.loop-b.invariant.0) (number_more bytes k c.loop-b-test.true, power_more (number (take k bytes)) k (get_or bytes k 0) (rw c.loop-b.invariant.0 at c.loop-b.invariant.1) (omega (arith, c.type_inv.bytes k)))

pub returns : goal.returns
returns c = c.loop-b.invariant.0 ∙ ap number (take_all c.loop-b.b-index c.args.bytes.now c.loop-b-test.false)
