-- `records` meets its contract. Assumes nothing.
use Rattle.deployment.specs.Catalogue.{record_count}
use Rattle.catalogue.proofs.rule.records.Goals as goal

pub returns : goal.returns
unfolding record_count
returns c = c.min.ensures
