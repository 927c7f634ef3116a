use Rattle.catalogue.specs.RuleMarks.{Apart}
use Rattle.catalogue.proofs.Marking.{Marked}
use Rattle.catalogue.proofs.rule.apart.Given as goal

abbrev pub invariant-loop-k : goal.invariant-loop-k
invariant-loop-k l = Apart l.skip l.k l.rules × Marked l.skip l.k l.rules l.cells
