-- `put_field` meets its contract: the records of all lines are put, then the head, and both are the field. Assumes nothing.
use Rattle.policy.specs.Policy.{most_commands}
use Rattle.console_text.specs.Reading.{Understood, read_from}
use Rattle.console_reader.proofs.ScriptField.{field_small, field_written}
use Rattle.console_reader.proofs.put_field.Goals as goal

pub returns : goal.returns
returns c =
    let a = c.args in
    let (commands, is, long) = c.requires in
    let read : Understood = read_from a.maker a.kind most_commands 1 a.text.now in
    field_written a.kind a.n a.place.now read commands is long
    c.put_commands.result _ c.if-place-needed.false c.put_commands.ensures c.close.ensures.1

-- 13
pub returns-then-place-needed : goal.returns-then-place-needed
returns-then-place-needed c =
    let a = c.args in
    let (commands, is, long) = c.requires in
    let read : Understood = read_from a.maker a.kind most_commands 1 a.text.now in
    field_small a.kind a.n a.place.now read commands is long c.if-place-needed.true
