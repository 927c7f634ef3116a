-- `value` meets its contract: what there is of the part. Assumes nothing.
use Rattle.reader.proofs.ValuePlaces.{cut_least}
use Rattle.reader.proofs.file.value.Goals as goal

pub returns : goal.returns
returns c =
    let a = c.args in
    cut_least a.span a.file.now c.min-start.result c.min-size.result c.min-start.ensures c.min-size.ensures
