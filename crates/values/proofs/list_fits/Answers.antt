-- `list_fits` meets its contract: its tests are those of the definition. Assumes nothing.
use borrow.Author.Tests.{eq-eqb, ne_eqb}
use Rattle.deployment.specs.Values.{list_fits}
use Rattle.values.proofs.list_fits.Goals as goal

pub returns-then-size-eq0 : goal.returns-then-size-eq0
unfolding list_fits
returns-then-size-eq0 c = rw (eq-eqb _ 0 c.if-size-eq0.true)

pub returns-else-size-eq0 : goal.returns-else-size-eq0
unfolding list_fits
returns-else-size-eq0 c = rw (ne_eqb _ 0 c.if-size-eq0.false)
