-- `put_range` meets its contract: the bounds are the numbers at their places. Assumes nothing.
use Rattle.deployment.specs.Values.{range_at}
use Rattle.rule_lines.proofs.ranges.put_range.Goals as goal

pub returns : goal.returns
unfolding range_at
returns c = rw (← c.number_of-low.ensures, ← c.number_of-high.ensures) c.put_bounds.ensures
