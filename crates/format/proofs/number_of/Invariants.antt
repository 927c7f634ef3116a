use Prim.Native.Nat.{◌^◌, ◌<◌}
use mathlib.Core.Path.{◌≡◌}
use lib.ListN.{take}
use Rattle.deployment.specs.Bytes.{number}
use Rattle.format.proofs.number_of.Given as goal

abbrev pub invariant-loop-b : goal.invariant-loop-b
invariant-loop-b l = (l.n ≡ number (take l.b-index l.bytes)) × (l.n < 256 ^ l.b-index)
