-- `checked` meets its contract: each of the values is bytes. Assumes nothing.
use Rattle.entries.proofs.lists.checked.Goals as goal

pub returns-clause-bytes : goal.returns-clause-bytes
returns-clause-bytes c =
    rw (← c.values.view_is)
    (record {
      rules = c.are_bytes.ensures;
      initial = c.are_bytes-2.ensures;
      target = c.are_bytes-3.ensures;
      default = c.are_bytes_if.ensures;
      keep = c.are_bytes_if-2.ensures;
      script = c.are_bytes_if-3.ensures;
    })
