-- `called_with` is safe: a part of the room is lent only where the room has so many bytes. Assumes nothing.
use native.Mathlib.Omega.{arith}
use lib.ListN.{length-take}
use Rattle.iptables_cases.proofs.called_with.Goals as goal

pub slice_bounds-from_iptables-end-2 : goal.slice_bounds-from_iptables-end-2
slice_bounds-from_iptables-end-2 c = simp length-take (omega arith)
