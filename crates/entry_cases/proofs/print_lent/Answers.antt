-- `print_lent` is safe: a place has at most 65,535 bytes, and the room has 65,536. Assumes nothing.
use native.Mathlib.Omega.{arith}
use lib.ListN.{length-take}
use Rattle.entry_cases.proofs.print_lent.Goals as goal

pub slice_bounds-print_filled-end : goal.slice_bounds-print_filled-end
slice_bounds-print_filled-end c = simp length-take (omega arith)
