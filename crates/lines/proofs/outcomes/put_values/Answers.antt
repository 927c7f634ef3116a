-- `put_values` meets its contract: each case is the definition's own. Assumes nothing.
use Rattle.policy.specs.Judge.{verdict_numbers}
use Rattle.lines.proofs.outcomes.put_values.Goals as goal

pub returns-in-Broken : goal.returns-in-Broken
unfolding verdict_numbers
returns-in-Broken c = rw (c.in-Broken.is, ← c.from.ensures) c.put_numbers.ensures

pub returns-in-Elsewhere : goal.returns-in-Elsewhere
unfolding verdict_numbers
returns-in-Elsewhere c = rw c.in-Elsewhere.is c.put_numbers-in-Elsewhere.ensures

pub returns-in-Unordered : goal.returns-in-Unordered
unfolding verdict_numbers
returns-in-Unordered c = rw c.in-Unordered.is c.put_numbers-in-Unordered.ensures

pub returns-in-NotFull : goal.returns-in-NotFull
unfolding verdict_numbers
returns-in-NotFull c = rw c.in-NotFull.is c.put_numbers-in-NotFull.ensures

pub returns-in-Safe : goal.returns-in-Safe
unfolding verdict_numbers
returns-in-Safe c = rw c.in-Safe.is c.put_numbers-in-Safe.ensures
