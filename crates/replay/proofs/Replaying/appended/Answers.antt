-- `appended` leaves what the definition says: the edit with the place that the array gives, settled behind the old list. Assumes nothing.
use mathlib.Core.Path.{refl, ◌∙◌, ap}
use Rattle.running.specs.Running.{view, appended}
use Rattle.replay.specs.Stepping.{step_left, step_shown, cleared, changed_from}
use Rattle.replay.proofs.Settled.{settles}
use Rattle.replay.proofs.Replaying.appended.Goals as goal

pub returns : goal.returns
unfolding step_left step_shown cleared changed_from
returns c =
    let a = c.args in
    c.settle.ensures
    ∙ settles a.self.places.of
    (c.app.ensures ∙ ap (appended a.size (view a.self.list) a.r) c.place-place.ensures)
    refl
    c.count.ensures
