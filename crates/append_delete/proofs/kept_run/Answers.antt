-- `kept_run` meets its contract. The invariant: what is kept so far, and what is kept of the rest of the two policies, is what is kept of
-- the whole. The measure is the number of rules left. Assumes nothing.
use Prim.Native.Nat.{◌<◌}
use mathlib.Core.Path.{sym, ◌∙◌}
use native.Mathlib.Omega.{arith}
use borrow.Author.Rules.{rules}
use lib.ListN.{length}
use Rattle.deployment.specs.Values.{numbers_of}
use Rattle.append_delete.proofs.DeletesAppends.{found_none, found_one, found_another, found_enough, found_all}
use Rattle.append_delete.proofs.kept_run.Goals.{then-kept-wanted+then-number_at, then-kept-wanted+else-number_at, else-kept-wanted}
use Rattle.append_delete.proofs.kept_run.Goals as goal

pub loop-i-init : goal.loop-i-init
loop-i-init c = (search rules, c.listed-rules.ensures, c.listed-wanted.ensures, found_none _ _)

pub loop-i-preserved : goal.loop-i-preserved
loop-i-preserved c =
    let initial = numbers_of c.args.initial.now in
    let inv = c.loop-i.invariant in
    let k = c.loop-i.kept in
    let i = c.loop-i.i in
    let more : i < length initial = omega arith in (
      omega arith,
      inv.1,
      inv.2,
      elim c.if-kept-wanted.branch [
        | then-kept-wanted+then-number_at w ↦
            rw w.kept-is
            (found_one _ _ k i inv.3 more (omega arith)
            (sym w.number_at.ensures ∙ w.if-number_at.true ∙ w.number_at-then-kept-wanted.ensures))
        | then-kept-wanted+else-number_at w ↦
            rw w.kept-is
            (found_another _ _ k i inv.3 more (omega arith)
            (λ e. w.if-number_at.false (w.number_at.ensures ∙ e ∙ sym w.number_at-then-kept-wanted.ensures)))
        | else-kept-wanted w ↦ rw w.kept-is (found_enough _ _ k i inv.3 more (omega arith))
      ],
    )

pub returns : goal.returns
returns c = found_all _ _ c.loop-i.kept c.loop-i.i c.loop-i.invariant.3 (omega arith)
