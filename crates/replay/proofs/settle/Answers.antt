-- `settle` leaves what the definition says, by whether the edit is refused. Assumes nothing.
use Rattle.running.specs.Running.{shown}
use Rattle.replay.specs.Stepping.{left_by, settled, places_after}
use Rattle.replay.proofs.settle.Goals as goal

pub returns-in-None : goal.returns-in-None
unfolding left_by settled shown places_after
returns-in-None c = rw (c.in-None.is, c.numbered-anew.ensures)

pub returns-in-Some : goal.returns-in-Some
unfolding left_by settled shown places_after
returns-in-Some c = rw c.in-Some.is
