-- `put_plan` meets its contract: a plan that was made has its script in the field, and the block is that of the script. Assumes nothing.
use Prim.Native.Nat.{◌≤◌}
use native.Mathlib.Omega.{arith}
use lib.ListN.{length}
use Rattle.listing.proofs.PlanTexts.{not_turned, field_inside, value_reads, block_is}
use Rattle.deployment.specs.File.{head_bytes}
use Rattle.listing.proofs.put_plan.Goals as goal
use Rattle.listing.proofs.put_plan.Goals.{In-Ok}

-- the field's part that the plan counts is inside it
inside : (c : In-Ok) → let plan = c.in-Ok.plan in (head_bytes ≤ plan.bytes) × (plan.bytes ≤ length c.args.field.now)
inside c = field_inside c.requires.1 c.in-Ok.plan c.in-Ok.is

pub returns-in_default : goal.returns-in_default
returns-in_default c = λ made reads. absurd (not_turned reads c.in_default.is)

pub returns : goal.returns
returns c =
    let plan = c.in-Ok.plan in
    let is = c.in-Ok.is in
    let args = c.args in
    λ planned reads.
    rw (← block_is reads plan is args.kind args.initial args.target) (c.put_block.ensures (_, value_reads reads plan is))

pub slice_bounds-put_block-count : goal.slice_bounds-put_block-count
slice_bounds-put_block-count c = omega (arith, inside (goal.at.slice_bounds-put_block-count c).In-Ok)

pub slice_bounds-put_block-start : goal.slice_bounds-put_block-start
slice_bounds-put_block-start c = omega (arith, inside (goal.at.slice_bounds-put_block-start c).In-Ok)

pub slice_bounds-put_block-end : goal.slice_bounds-put_block-end
slice_bounds-put_block-end c = omega (arith, inside (goal.at.slice_bounds-put_block-end c).In-Ok)
