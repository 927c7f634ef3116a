-- `files::replay` meets its contract: turned away as the file is, or as the replay of the values at the places of the file. Assumes nothing.
use native.Mathlib.Omega.{arith}
use Rattle.deployment.proofs.Bytes.{elements_are_bytes}
use Rattle.deployment.proofs.Lent.{turned_away}
use Rattle.entries.specs.Answers.{replayed_reading}
use Rattle.reader.proofs.ShownReadings.{shown_refused}
use Rattle.entries.proofs.Replays.{replayed_file}
use Rattle.entries.proofs.files.replay.Goals as goal

pub returns-in-Err : goal.returns-in-Err
unfolding replayed_reading
returns-in-Err c = turned_away _ _ _ (shown_refused _ _ c.in-Err.ensures)

pub returns-in-Ok : goal.returns-in-Ok
returns-in-Ok c =
    replayed_file _ c.in-Ok.layout (elements_are_bytes _ (λ i. omega (arith, c.type_inv.file i))) c.in-Ok.ensures c.args.place.now
    c.value.ensures c.value_or_empty-script.ensures c.replay_into.ensures
