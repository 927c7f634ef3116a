-- `closed` takes a rule out. Assumes nothing.
use native.Mathlib.Omega.{arith}
use Rattle.running.proofs.Slots.{slots_closed}
use Rattle.running.proofs.closed.Goals as goal

pub returns : goal.returns
returns c = rw c.copy_within.ensures.after (slots_closed c.args.at c.args.len c.args.rules c.requires.0 (omega arith))
