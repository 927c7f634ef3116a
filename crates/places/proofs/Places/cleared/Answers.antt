-- `cleared` sets the slot of rule r to 0; a rule past the array's end has none. Assumes nothing.
use native.Mathlib.Omega.{arith}
use lib.Seq.{set_out}
use mathlib.Core.Path.{sym}
use Rattle.places.proofs.Places.cleared.Goals as goal

pub returns-else-at-lt-MOST_RULES : goal.returns-else-at-lt-MOST_RULES
returns-else-at-lt-MOST_RULES c =
    let slots = c.well_formed.0.1.1.0.1.0.1 in
    sym (set_out c.args.self.of c.args.r 0 (omega arith))
