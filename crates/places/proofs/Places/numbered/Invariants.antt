use Prim.Native.Nat.{suc}
use mathlib.Core.Path.{◌≡◌}
use lib.ListN.{length, take, drop}
use Rattle.places.specs.Places.{renumbered}
use Rattle.places.proofs.Places.numbered.Given as goal

abbrev pub invariant-loop-k : goal.invariant-loop-k
invariant-loop-k l =
    (length l.of ≡ 1024) × (renumbered (suc l.k) (drop l.k (take l.len l.rules)) l.of ≡ renumbered (suc l.from) (drop l.from (take l.len l.rules)) l.initial.of)
