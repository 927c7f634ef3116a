-- `lists::replay` meets its contract: turned away at the rules or the policy, or as the replay over as many rules as their bytes hold. Assumes
-- nothing.
use mathlib.Core.Path.{◌∙◌}
use Rattle.entries.proofs.Replays.{turned_before, replayed_values_lem}
use Rattle.entries.proofs.lists.replay.Goals as goal

pub returns-in-Err : goal.returns-in-Err
returns-in-Err c =
    let a = c.args in
    rw c.into.ensures (turned_before a.rules.now a.initial.now a.default a.script.now a.place.now _ c.in-Err.ensures)

pub returns-in-Ok : goal.returns-in-Ok
returns-in-Ok c =
    let a = c.args in
    c.replay_into.ensures
    ∙ replayed_values_lem a.rules.now a.initial.now a.default a.script.now a.place.now c.in-Ok.ensures
