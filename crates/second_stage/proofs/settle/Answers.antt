-- `settle` does what the definition does for one waiting rule of the second stage: it is deleted where its place in the target is 0, and
-- moved over the settled rules of smaller places where it isn't. Assumes nothing.
use Prim.Native.Nat.{◌≤◌}
use native.Mathlib.Omega.{arith}
use mathlib.Core.Path.{sym, ◌∙◌}
use lib.Dec.{ltb}
use lib.ListN.{length, get_or}
use Rattle.running.specs.Running.{view}
use Rattle.running.proofs.Edits.{view_fits}
use Rattle.first_stage.proofs.Looking.{found_fits}
use Rattle.first_stage.proofs.Edits.{del_gives, mov_gives}
use Rattle.second_stage.proofs.SecondStage.{did_delete, did_lower}
use Rattle.second_stage.proofs.settle.Goals as goal
use Rattle.second_stage.proofs.settle.Goals.{After-first_above-j, Start}

-- the list has no more rules than slots
shown : (c : Start) → length (view c.args.list) ≤ 1024
shown c = omega (arith, view_fits c.args.list, c.well_formed.0.1.1.0.1.0.1)

pub overflow_cast-i : goal.overflow_cast-i
overflow_cast-i c = record { fits = omega (arith, shown (goal.at.overflow_cast-i c).Start, c.requires.1) }

pub returns-then-place-eq0 : goal.returns-then-place-eq0
returns-then-place-eq0 c =
    let a = c.args in
    let pre = c.requires in
    λ target u done policy says is at.
    did_delete target a.to.now policy says a.list c.del_place-edited.result.list a.r a.i a.sent a.field.now c.put.new.field
    c.told-field pre.3 pre.2 u done is at (sym c.place_of-place.ensures ∙ c.if-place-eq0.true)
    (del_gives c.del_place-edited.result (view a.list) a.i c.del_place-edited.ensures pre.0 pre.1) c.put.ensures

pub overflow_cast-i-2 : goal.overflow_cast-i-2
overflow_cast-i-2 c = record { fits = omega (arith, shown (goal.at.overflow_cast-i-2 c).Start, c.requires.1) }

-- the place that is moved to is in the list
found_inside : (c : After-first_above-j) → c.first_above-j.result ≤ length (view c.args.list)
found_inside c =
    let a = c.args in
    found_fits (λ x. ltb c.place_of-place.result (get_or a.to.now x 0)) (view a.list) a.i c.first_above-j.result c.requires.1
    c.first_above-j.ensures

pub overflow_cast-j : goal.overflow_cast-j
overflow_cast-j c =
    record { fits = omega (arith, shown (goal.at.overflow_cast-j c).Start, found_inside (goal.at.overflow_cast-j c).After-first_above-j) }

pub returns : goal.returns
returns c =
    let a = c.args in
    let pre = c.requires in
    λ target u done policy says is at.
    did_lower target a.to.now policy says a.list c.mov-edited.result.list a.r a.i a.sent a.field.now c.put-2.new.field
    c.told-field pre.3 pre.2 u done is at c.place_of-place.result c.first_above-j.result c.place_of-place.ensures c.if-place-eq0.false
    c.first_above-j.ensures
    (mov_gives c.mov-edited.result (view a.list) a.i c.first_above-j.result c.mov-edited.ensures pre.0 pre.1
    (omega (arith, c.first_above-j.ensures, pre.0)) (found_inside (goal.at.returns c).After-first_above-j))
    c.put-2.ensures
