-- `opened` puts a rule in. Assumes nothing.
use native.Mathlib.Omega.{arith}
use Rattle.running.proofs.Slots.{slots_opened}
use Rattle.running.proofs.opened.Goals as goal

pub returns : goal.returns
returns c = rw c.copy_within.ensures.after (slots_opened c.args.at c.args.len c.args.r c.args.rules c.requires.0 (omega arith))
