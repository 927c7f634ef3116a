-- `script_fits` meets its contract: its tests are those of the definition. Where the first two meet, they are the first two of the
-- definition. Assumes nothing.
use Prim.Native.Nat.{◌-◌, ◌%◌}
use mathlib.Core.Path.{◌≡◌, ◌∙◌}
use mathlib.Core.Bool.{◌&&◌}
use lib.Dec.{eqb, leb}
use borrow.Author.Tests.{le-leb, lt-leb}
use Rattle.deployment.specs.Values.{script_fits}
use Rattle.values.proofs.script_fits.Goals as goal
use Rattle.values.proofs.script_fits.Goals.{Joined-size-ge1, then-size-ge1, else-size-ge1}

two_tests : (c : Joined-size-ge1) → c.if-size-ge1.value ≡ (leb 1 c.args.size && eqb ((c.args.size - 1) % 5) 0)
two_tests c =
    elim c.if-size-ge1.branch [
      | then-size-ge1 w ↦ rw (le-leb 1 c.args.size w.if-size-ge1.true) w.value-is
      | else-size-ge1 w ↦
          rw (lt-leb 1 c.args.size w.if-size-ge1.false) (w.value-is ∙ lt-leb 1 c.args.size w.if-size-ge1.false)
    ]

pub returns-then-size-eq0 : goal.returns-then-size-eq0
unfolding script_fits
returns-then-size-eq0 c = rw (← two_tests (goal.at.returns-then-size-eq0 c).Joined-size-ge1, c.if-size-eq0.true)

pub returns-else-size-eq0 : goal.returns-else-size-eq0
unfolding script_fits
returns-else-size-eq0 c = rw (← two_tests (goal.at.returns-else-size-eq0 c).Joined-size-ge1, c.if-size-eq0.false)
