use mathlib.Core.Path.{◌≡◌}
use Rattle.deployment.specs.FieldValues.{catalogue_value}
use Rattle.catalogue.specs.Answers.{checking}
use Rattle.catalogue.proofs.Catalogue.{read_on}
use Rattle.catalogue.proofs.catalogue_checked.Given as goal

abbrev pub invariant-loop-k : goal.invariant-loop-k
invariant-loop-k l = checking (catalogue_value l.rules) ≡ checking (read_on l.k l.rules)
