-- `flow_at` meets its contract: the flow's bytes stand there, and each number is read from its own of them. Assumes nothing.
use Prim.Native.Nat.{◌*◌}
use mathlib.Core.Path.{◌∙◌, ap}
use native.Mathlib.Omega.{arith}
use Rattle.deployment.specs.Flows.{flow_of}
use Rattle.deployment.proofs.Records.{part_between}
use Rattle.flows.proofs.ManyFlows.{flow_read}
use Rattle.flows.proofs.flow_at.Goals as goal

pub returns : goal.returns
returns c =
    let k = c.args.k in
    let flows = c.args.flows.now in
    rw (c.four_at.ensures, c.two_at.ensures, c.four_at-2.ensures, c.two_at-2.ensures)
    (flow_read _ (omega arith) ∙ ap flow_of (part_between (13 * k) 13 flows))

pub overflow_mul-start : goal.overflow_mul-start
overflow_mul-start c = omega arith

pub overflow_add-value : goal.overflow_add-value
overflow_add-value c = omega arith

pub slice_bounds-value-count : goal.slice_bounds-value-count
slice_bounds-value-count c = omega arith

pub slice_bounds-value-start : goal.slice_bounds-value-start
slice_bounds-value-start c = omega arith

pub slice_bounds-value-end : goal.slice_bounds-value-end
slice_bounds-value-end c = omega arith
