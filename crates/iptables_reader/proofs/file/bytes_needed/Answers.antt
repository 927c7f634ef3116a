-- `bytes_needed` meets its contract: a default has four bytes where it is there. Assumes nothing.
use Prim.Native.Nat.{◌≤◌}
use native.Mathlib.Omega.{arith}
use mathlib.Core.Path.{◌≡◌}
use mathlib.Core.Bool.{cond}
use Rattle.iptables_reader.specs.Kept.{bytes_needed}
use Rattle.iptables_reader.proofs.file.bytes_needed.Goals as goal
use Rattle.iptables_reader.proofs.file.bytes_needed.Goals.{Joined-permits, then-permits, else-permits}

-- the bytes of the default, which are few
default_size : (c : Joined-permits) → c.if-permits.default ≡ cond c.args.permits 4 0
default_size c = elim c.if-permits.branch [ then-permits w ↦ rw w.if-permits.true w.default-is | else-permits w ↦ rw w.if-permits.false w.default-is ]

default_few : (c : Joined-permits) → c.if-permits.default ≤ 4
default_few c = elim c.if-permits.branch [ then-permits w ↦ omega (arith, w.default-is) | else-permits w ↦ omega (arith, w.default-is) ]

pub returns : goal.returns
unfolding bytes_needed
returns c = rw (default_size (goal.at.returns c).Joined-permits)

pub overflow_add-result-3 : goal.overflow_add-result-3
overflow_add-result-3 c = record { fits = omega (arith, default_few (goal.at.overflow_add-result-3 c).Joined-permits, c.requires) }
