-- `record_at` meets its contract: the k-th record stands behind k whole pieces and the bytes that are skipped. Assumes nothing.
use Prim.Native.Nat.{◌+◌, ◌*◌, ◌≤◌}
use native.Mathlib.Omega.{arith}
use mathlib.Core.Path.{sym, ◌∙◌}
use lib.ListN.{length}
use Rattle.deployment.specs.Catalogue.{record_count}
use Rattle.deployment.proofs.Records.{part_between, piece_fits, record_there, record_past}
use Rattle.format.proofs.record_at.Goals as goal
use Rattle.format.proofs.record_at.Goals.{Else-rules-step}

-- past the test: the record lies inside
inside : (c : Else-rules-step) → let a = c.args in a.k * (a.skip + 27) + (a.skip + 27) ≤ length a.rules.now
inside c = let a = c.args in piece_fits (a.skip + 27) (length a.rules.now) a.k c.if-rules-step.false

pub returns : goal.returns
unfolding record_count
returns c =
    let a = c.args in
    part_between (a.k * (a.skip + 27) + a.skip) 27 a.rules.now ∙ sym (record_there a.skip a.rules.now a.k c.if-rules-step.false)

pub returns-then-rules-step : goal.returns-then-rules-step
unfolding record_count
returns-then-rules-step c =
    let a = c.args in
    sym (record_past a.skip a.rules.now a.k c.if-rules-step.true)

pub overflow_mul-at : goal.overflow_mul-at
overflow_mul-at c = omega (arith, inside c)

pub overflow_add-at : goal.overflow_add-at
overflow_add-at c = omega (arith, inside c)

pub overflow_add-result : goal.overflow_add-result
overflow_add-result c = omega (arith, inside c)

pub slice_bounds-result-end-2 : goal.slice_bounds-result-end-2
slice_bounds-result-end-2 c = omega (arith, inside c)
