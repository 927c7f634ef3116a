-- `read` meets its contract. The loop's invariant: some fields have been read from the file's first bytes, and the progress is what
-- the reader knows of them. The measure is what is left of the file. Assumes nothing.
use Prim.Native.Nat.{◌<◌}
use native.Mathlib.Omega.{arith}
use mathlib.Core.Path.{◌≡◌, ◌∙◌}
use Rattle.std.proofs.Common.{rules, Err}
use Rattle.deployment.specs.File.{Fields, nothing}
use Rattle.deployment.proofs.Bytes.{elements_are_bytes}
use Rattle.reader.specs.Steps.{Begun}
use Rattle.reader.proofs.Reading.{begun_at_start, begun_again, turned_away, ended_right, read_on, read_no_further}
use Rattle.reader.proofs.file.read.Goals as goal
use Rattle.reader.proofs.file.read.Goals.{In_ok-progress}

pub loop-progress-init : goal.loop-progress-init
loop-progress-init c = (nothing, rw c.nothing_read-progress.ensures (begun_at_start c.args.file.now))

-- a field was read: one field more, and the position has grown
again : (c : In_ok-progress)
    → (g : Fields) × Begun c.args.file.now c.in_ok-progress.progress g × (c.loop-progress.progress.at < c.in_ok-progress.progress.at)
again c =
    let (f, begun) = c.loop-progress.invariant in
    begun_again c.args.file.now c.loop-progress.progress f begun c.loop-progress-test.true
    (elements_are_bytes c.args.file.now (λ i. omega (arith, c.type_inv.file i))) _
    (read_on _ c.map_err.result c.next_field.result c.map_err.ensures.cases _ c.in_ok-progress.was ∙ c.next_field.ensures f begun)

pub loop-progress-smaller : goal.loop-progress-smaller
loop-progress-smaller c = omega (arith, (again c).2, c.loop-progress-test.true)

pub loop-progress-preserved : goal.loop-progress-preserved
loop-progress-preserved c = let more = again c in (more.0, more.1)

pub returns-in_err-progress : goal.returns-in_err-progress
returns-in_err-progress c =
    let (f, begun) = c.loop-progress.invariant in
    let (why, stopped, told) = read_no_further _ c.map_err.result c.next_field.result c.map_err.ensures.cases _ c.in_err-progress.was in
    let named : c.in_err-progress.field-0.0 ≡ record { why = why; at = c.loop-progress.progress.at } = search rules in
    let away : c.from_residual.result ≡ Err c.in_err-progress.field-0.0 = search rules in
    away ∙ rw named
    (turned_away c.args.file.now c.loop-progress.progress f begun c.loop-progress-test.true
    (elements_are_bytes c.args.file.now (λ i. omega (arith, c.type_inv.file i))) why (stopped ∙ c.next_field.ensures f begun))

pub returns : goal.returns
returns c =
    let (f, begun) = c.loop-progress.invariant in
    c.ended.ensures f begun.readable begun.known
    ∙ ended_right c.args.file.now c.loop-progress.progress f begun c.loop-progress-test.false
