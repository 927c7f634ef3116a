-- `send_deletes` meets its contract. The invariant: the rules from index i on are gone through, and those of them that are not marked are sent, last to
-- first. Assumes nothing.
use Prim.Native.Nat.{ℕ, suc, ◌-◌}
use native.Mathlib.Omega.{arith}
use mathlib.Core.Path.{◌≡◌, subst}
use Rattle.deployment.specs.Values.{numbers_of}
use Rattle.append_delete.proofs.DeletesAppends.{Deleting, deleting_none, deleting_one, deleting_next, deleting_all, inside_at}
use Rattle.append_delete.proofs.send_deletes.Goals as goal
use Rattle.append_delete.proofs.send_deletes.Goals.{In-loop-i}

pub loop-i-init : goal.loop-i-init
loop-i-init c = rw c.listed-rules.ensures (deleting_none c.args.marks (numbers_of c.args.initial.now) c.args.field.now c.told-field)

pub bounds-marks-r : goal.bounds-marks-r
bounds-marks-r c = rw c.number_at-r.ensures (inside_at _ _ 1024 c.requires.1 (omega (arith, c.loop-i.invariant.passed)))

-- the rules behind the next one are gone through
behind : (c : In-loop-i)
    → Deleting c.args.marks (numbers_of c.args.initial.now) c.args.field.now c.loop-i.field c.loop-i.n (suc (c.loop-i.i - 1))
behind c =
    let at : c.loop-i.i ≡ suc (c.loop-i.i - 1) = omega arith in
    subst (λ (i : ℕ). Deleting c.args.marks (numbers_of c.args.initial.now) c.args.field.now c.loop-i.field c.loop-i.n i) at c.loop-i.invariant

pub loop-i-preserved-then-not-marks-r : goal.loop-i-preserved-then-not-marks-r
loop-i-preserved-then-not-marks-r c =
    let is = c.number_at-r.ensures in
    deleting_one _ _ _ _ _ _ (behind (goal.at.loop-i-preserved-then-not-marks-r c).In-loop-i) _ (omega arith) (rw is at c.if-not-marks-r.true)
    (rw is at c.put.ensures)

pub loop-i-preserved : goal.loop-i-preserved
loop-i-preserved c =
    deleting_next _ _ _ _ _ _ (behind (goal.at.loop-i-preserved c).In-loop-i) (rw c.number_at-r.ensures at c.if-not-marks-r.false)

pub returns : goal.returns
returns c = let none : c.loop-i.i ≡ 0 = omega arith in deleting_all _ _ _ _ _ (rw none at c.loop-i.invariant)
