-- `start` numbers the list from its first rule on, in an array that is empty. Assumes nothing.
use mathlib.Core.Path.{refl, ◌∙◌, ap}
use Rattle.running.specs.Running.{view}
use Rattle.places.specs.Places.{renumbered}
use Rattle.replay.proofs.Replaying.start.Goals as goal

pub returns : goal.returns
returns c = (refl, c.numbered-places.ensures ∙ ap (renumbered 1 (view c.args.list)) c.none.ensures)
