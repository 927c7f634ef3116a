-- `mark_of` meets its contract: what is mixed so far, with the bytes from k on, gives what all of them give. Assumes nothing.
use native.Mathlib.Omega.{arith}
use mathlib.Core.Path.{sym, ◌∙◌, ap}
use lib.ListN.{drop}
use Rattle.catalogue.specs.RuleMarks.{mixed_from}
use Rattle.catalogue.proofs.Marking.{first_small, mixed_further, mark_is}
use Rattle.catalogue.proofs.rule.mark_of.Goals as goal

pub loop-k-init : goal.loop-k-init
loop-k-init c =
    let rule = c.args.rule.now in
    let begun = c.action_mark-mixed.ensures in
    (omega (arith, begun, first_small rule), ap (λ n. mixed_from n (drop 1 rule)) (sym begun))

pub overflow_cast-mixed : goal.overflow_cast-mixed
overflow_cast-mixed c = omega (arith, c.type_inv.rule c.loop-k.k)

pub overflow_add-mixed : goal.overflow_add-mixed
overflow_add-mixed c = omega (arith, c.type_inv.rule c.loop-k.k)

pub overflow_mul-mixed : goal.overflow_mul-mixed
overflow_mul-mixed c = omega (arith, c.type_inv.rule c.loop-k.k)

pub loop-k-preserved : goal.loop-k-preserved
loop-k-preserved c = (omega arith, c.loop-k.invariant.1 ∙ mixed_further c.loop-k.mixed c.args.rule.now c.loop-k.k (omega arith))

pub returns : goal.returns
returns c = (mark_is c.loop-k.mixed c.args.rule.now c.loop-k.k c.loop-k.invariant.1 (omega arith), omega arith)
