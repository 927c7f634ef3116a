-- `tried` is safe: a place has at most 65,535 bytes, and the room has 65,536. Assumes nothing.
use native.Mathlib.Omega.{arith}
use lib.ListN.{length-take}
use Rattle.writer_cases.proofs.tried.Goals as goal

pub slice_bounds-write-end-2 : goal.slice_bounds-write-end-2
slice_bounds-write-end-2 c = simp length-take (omega arith)
