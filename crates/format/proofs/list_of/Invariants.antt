use mathlib.Core.Path.{◌≡◌}
use lib.ListN.{length, take}
use Rattle.deployment.specs.Values.{numbers_of}
use Rattle.format.proofs.list_of.Given as goal

abbrev pub invariant-loop-k : goal.invariant-loop-k
invariant-loop-k l = (length l.rules ≡ 1024) × (take l.k l.rules ≡ take l.k (numbers_of l.value))
