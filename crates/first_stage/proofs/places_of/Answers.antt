-- `places_of` numbers the rules of a list in an array of none. Assumes nothing.
use mathlib.Core.Path.{◌∙◌, ap}
use Rattle.running.specs.Running.{view}
use Rattle.places.specs.Places.{renumbered}
use Rattle.first_stage.proofs.places_of.Goals as goal

pub returns : goal.returns
returns c = c.numbered-numbered.ensures ∙ ap (renumbered 1 (view c.args.list)) c.none.ensures
