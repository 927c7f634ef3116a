-- `note_state` hands the shown part of the list's array, and the side array. Assumes nothing.
use native.Mathlib.Omega.{arith}
use mathlib.Core.Path.{◌≡◌, sym, ◌∙◌, ap}
use lib.ListN.{length, take}
use Rattle.running.specs.Running.{view}
use Rattle.running.proofs.Edits.{view_count, view_fits}
use Rattle.deployment.specs.Values.{numbers_of}
use Rattle.judge.specs.SoFar.{noted}
use Rattle.judge.proofs.note_state.Goals as goal
use Rattle.judge.proofs.note_state.Goals.{After-count-n}

-- the first rules of the array, as many as are counted, are the list
shown : (c : After-count-n) → let list = c.args.state.list in take c.count-n.result list.rules ≡ view list
shown c = view_count c.args.state.list c.count-n.result c.count-n.ensures

pub slice_bounds-rules-end : goal.slice_bounds-rules-end
slice_bounds-rules-end c = omega (arith, c.count-n.ensures, view_fits c.args.state.list)

pub slice_bounds-note-end : goal.slice_bounds-note-end
slice_bounds-note-end c = c.count-n.ensures ∙ ap length (sym (shown (goal.at.slice_bounds-note-end c).After-count-n))

pub note-requires : goal.note-requires
note-requires c = rw (shown (goal.at.note-requires c).After-count-n) c.requires

pub returns : goal.returns
returns c =
    let a = c.args in
    c.note.ensures ∙ ap (noted (numbers_of a.initial.now) (numbers_of a.target.now) a.found a.at) (shown (goal.at.returns c).After-count-n)
