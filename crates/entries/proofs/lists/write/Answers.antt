-- `lists::write` meets its contract: values that are turned away leave the place as it was; else the file of their contents is written.
-- Assumes nothing.
use Rattle.std.proofs.lemmas.Result.{err_from_is_err_and}
use Rattle.deployment.proofs.Lent.{turned_away}
use Rattle.values.proofs.ValuesLent.{LentRead, values_refused, values_accepted}
use Rattle.entries.specs.Answers.{written_values}
use Rattle.entries.proofs.Given.{writer_asks, file_written}
use Rattle.entries.proofs.lists.write.Goals as goal
use Rattle.entries.proofs.lists.write.Goals.{In_ok-checked}

-- the values pass
passed : (c : In_ok-checked) → LentRead c.args.values.now
passed c = values_accepted _ c.checked.ensures.bytes c.in_ok-checked.ensures.tested

pub returns-in_err-checked : goal.returns-in_err-checked
unfolding written_values
returns-in_err-checked c =
    let p = err_from_is_err_and c.from_residual.result c.from_residual.ensures.1 in
    rw (p.1, p.2) (turned_away _ _ _ (values_refused _ _ c.in_err-checked.ensures.tested))

pub write_into-requires : goal.write_into-requires
write_into-requires c = writer_asks (passed (goal.at.write_into-requires c).In_ok-checked)

pub returns : goal.returns
returns c = file_written (passed (goal.at.returns c).In_ok-checked) c.args.place.now c.write_into.ensures
