use Prim.Native.Nat.{◌-◌}
use lib.ListN.{length}
use Rattle.deployment.specs.File.{Fields}
use Rattle.reader.specs.Steps.{Begun}
use Rattle.reader.proofs.file.read.Given as goal

abbrev pub invariant-loop-progress : goal.invariant-loop-progress
invariant-loop-progress l = (f : Fields) × Begun l.file l.progress f

abbrev pub decreases-loop-progress : goal.decreases-loop-progress
decreases-loop-progress l = length l.file - l.progress.at
