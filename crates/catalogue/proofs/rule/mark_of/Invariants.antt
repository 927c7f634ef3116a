use Prim.Native.Nat.{◌<◌}
use mathlib.Core.Path.{◌≡◌}
use lib.ListN.{drop}
use Rattle.catalogue.specs.RuleMarks.{mixed_from}
use Rattle.catalogue.proofs.Marking.{first}
use Rattle.catalogue.proofs.rule.mark_of.Given as goal

abbrev pub invariant-loop-k : goal.invariant-loop-k
invariant-loop-k l = (l.mixed < 4294967296) × (mixed_from (first l.rule) (drop 1 l.rule) ≡ mixed_from l.mixed (drop l.k l.rule))
