-- `send_appends` meets its contract. The invariant: the rules of the rest before index j are sent. The measure is the number of rules left.
-- Assumes nothing.
use native.Mathlib.Omega.{arith}
use Rattle.deployment.specs.Values.{numbers_of}
use Rattle.append_delete.proofs.DeletesAppends.{appending_none, appending_one, appending_all}
use Rattle.append_delete.proofs.send_appends.Goals as goal

pub loop-j-init : goal.loop-j-init
loop-j-init c =
    appending_none (numbers_of c.args.target.now) c.args.kept c.args.before c.args.field.now c.requires.0 (omega (arith, c.requires.1))
    c.told-field

-- the commands still to be sent fit
pub overflow_add-n : goal.overflow_add-n
overflow_add-n c = record { fits = omega (arith, c.loop-j.invariant.counted, c.loop-j.invariant.to, c.requires.1) }

pub loop-j-preserved : goal.loop-j-preserved
loop-j-preserved c =
    let is = c.number_at.ensures in
    let more = c.loop-j-test.true in
    let all = c.listed-wanted.ensures in
    let inv = c.loop-j.invariant in
    appending_one _ c.args.kept c.args.before _ _ c.loop-j.n c.loop-j.j inv _ (omega (arith, more, all))
    (omega (arith, more, all, inv.counted, inv.from, c.requires.1)) (rw (← is) c.put.ensures)

pub returns : goal.returns
returns c = appending_all _ _ _ _ _ _ _ c.loop-j.invariant (omega (arith, c.loop-j-test.false, c.listed-wanted.ensures))
