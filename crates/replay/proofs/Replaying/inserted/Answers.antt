-- `inserted` leaves what the definition says: the edit with the place that the array gives, settled from the new rule on. Assumes nothing.
use mathlib.Core.Path.{refl, ◌∙◌, ap}
use Rattle.running.specs.Running.{view, inserted}
use Rattle.replay.specs.Stepping.{step_left, step_shown, cleared, changed_from}
use Rattle.replay.proofs.Settled.{settles}
use Rattle.replay.proofs.Replaying.inserted.Goals as goal

pub returns : goal.returns
unfolding step_left step_shown cleared changed_from
returns c =
    let a = c.args in
    c.settle.ensures
    ∙ settles a.self.places.of
    (c.ins.ensures ∙ ap (inserted a.size (view a.self.list) a.i a.r) c.place-place.ensures)
    refl
    c.index_of.ensures
