-- `marked` meets its contract. The invariant: the marks are those of the rules gone through. The measure is the number of rules left.
-- Assumes nothing.
use Prim.Native.Nat.{◌<◌}
use mathlib.Core.Path.{◌≡◌, refl}
use native.Mathlib.Omega.{arith}
use lib.ListN.{length, length-set}
use Rattle.deployment.specs.Values.{numbers_of}
use Rattle.plans.proofs.Marked.{marks_none}
use Rattle.append_delete.proofs.DeletesAppends.{marks_one, marks_out}
use Rattle.append_delete.proofs.marked.Goals.{then-r-lt-MOST_RULES, else-r-lt-MOST_RULES}
use Rattle.append_delete.proofs.marked.Goals as goal

pub loop-i-init : goal.loop-i-init
loop-i-init c = (omega arith, c.requires, refl, marks_none)

pub loop-i-preserved : goal.loop-i-preserved
loop-i-preserved c =
    let l = numbers_of c.args.list.now in
    let inv = c.loop-i.invariant in
    let i = c.loop-i.i in
    let marks = c.loop-i.marks in
    let is = c.number_at-r.ensures in
    let more : i < length l = omega arith in
    elim c.if-r-lt-MOST_RULES.branch [
      | then-r-lt-MOST_RULES w ↦
          rw w.marks-is (
            omega arith,
            inv.1,
            simp length-set inv.2,
            rw is (marks_one marks l i inv.3 more inv.2 (omega arith)),
          )
      | else-r-lt-MOST_RULES w ↦ rw w.marks-is (omega arith, inv.1, inv.2, marks_out marks l i inv.3 more (omega arith))
    ]

pub returns : goal.returns
returns c =
    let end : c.loop-i.i ≡ c.args.count = omega arith in
    rw end at c.loop-i.invariant.3
