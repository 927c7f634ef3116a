-- `put` meets its contract: the bytes of the record are stored at the command's place. Assumes nothing.
use Rattle.plans.proofs.field.put.Goals as goal

pub returns : goal.returns
returns c = rw (← c.record_of-record.ensures) c.store.ensures
