-- `place_of` reads the array's slot, or answers 0 past its end. Assumes nothing.
use native.Mathlib.Omega.{arith}
use mathlib.Core.Path.{sym}
use lib.ListN.{get_or-eq_default}
use Rattle.places.proofs.place_of.Goals as goal

pub returns-then-places-at : goal.returns-then-places-at
returns-then-places-at c = sym (get_or-eq_default c.args.places.now 0 c.if-places-at.true)

pub overflow_cast-result : goal.overflow_cast-result
overflow_cast-result c = omega (arith, c.type_inv.places c.args.r)
