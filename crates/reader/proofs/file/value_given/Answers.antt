-- `value_given` meets its contract: the value at a place, where it is given. Assumes nothing.
use Rattle.std.proofs.Common.{rules}
use Rattle.reader.proofs.ValuePlaces.{given_lent}
use Rattle.reader.proofs.file.value_given.Goals as goal

pub returns : goal.returns
returns c = given_lent c.args.file.now c.args.span c.map.result _ c.map.ensures.cases (λ span part h. search rules)
