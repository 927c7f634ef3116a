-- `listed` meets its contract: a list value has half as many numbers as bytes. Assumes nothing.
use mathlib.Core.Path.{sym}
use Rattle.deployment.proofs.Records.{numbers_length}
use Rattle.format.proofs.listed.Goals as goal

pub returns : goal.returns
returns c = sym (numbers_length c.args.value.now)
