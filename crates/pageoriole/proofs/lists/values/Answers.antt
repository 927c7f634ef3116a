-- `lists::values` meets its contract: the values that may be absent are there if their flags say so. Assumes nothing.
use Rattle.values.specs.Answers.{values_given}
use Rattle.pageoriole.proofs.lists.values.Goals as goal

pub returns : goal.returns
unfolding values_given
returns c = rw (← c.given.ensures, ← c.given-2.ensures, ← c.given-3.ensures)
