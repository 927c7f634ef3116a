-- `own_choice` keeps what the definition keeps. The loop's invariant: the rules kept so far, with the choice among the rest of the target
-- behind the last place kept, are the whole choice; no more are kept than are passed. Assumes nothing.
use Prim.Native.Nat.{ℕ, ◌<◌}
use native.Mathlib.Omega.{arith}
use mathlib.Core.Path.{◌≡◌, refl, ◌∙◌, ap}
use mathlib.Core.List.{List}
use borrow.Author.Rules.{rules}
use lib.ListN.{length, take, get_or, length-set}
use Rattle.running.specs.Running.{view}
use Rattle.running.specs.Place.{place_in}
use Rattle.places.specs.Places.{Says}
use Rattle.running.proofs.Edits.{view_count, view_fits}
use Rattle.policy.proofs.Lists.{place_in_lem}
use Rattle.first_stage.proofs.ByPlace.{places_say}
use Rattle.insert_delete_move.proofs.OwnChoice.{choice_ends, choice_keeps, choice_passes}
use Rattle.insert_delete_move.proofs.own_choice.Goals as goal
use Rattle.insert_delete_move.proofs.own_choice.Goals.{After-place_of-place, In-loop-r, then-last-place, else-last-place}

pub loop-r-init : goal.loop-r-init
loop-r-init c = (refl, search rules, λ initial says d. refl)

-- an index of the target is a slot of its array
below : (c : In-loop-r) → c.loop-r.r-index < 1024
below c =
    omega (
      arith,
      c.loop-r-test.true,
      c.count-len.ensures,
      view_fits c.args.target,
      c.well_formed.1.0.1.1.0.1.0.1,
    )

pub shared_ref_as_front-r-items : goal.shared_ref_as_front-r-items
shared_ref_as_front-r-items c = omega (arith, c.count-len.ensures, view_fits c.args.target, c.well_formed.1.0.1.1.0.1.0.1)

pub offset_bounds-kept-count : goal.offset_bounds-kept-count
offset_bounds-kept-count c = record { fits = omega (arith, below (goal.at.offset_bounds-kept-count c).In-loop-r, c.loop-r.invariant.1) }

pub bounds-kept-count : goal.bounds-kept-count
bounds-kept-count c = omega (arith, below (goal.at.bounds-kept-count c).In-loop-r, c.loop-r.invariant.1)

pub overflow_add-count : goal.overflow_add-count
overflow_add-count c = record { fits = omega (arith, below (goal.at.overflow_add-count c).In-loop-r, c.loop-r.invariant.1) }

-- the place that is looked up for the next rule of the target is the rule's place in the initial policy
looked_up : (c : After-place_of-place) (initial : List ℕ)
    → Says c.places_of-of.result initial
    → c.place_of-place.result ≡ place_in (get_or (view c.args.target) c.loop-r.r-index 0) initial
looked_up c initial says =
    let target = c.args.target in
    let i = c.loop-r.r-index in
    let more : i < length (view target) = omega (arith, c.loop-r-test.true, c.count-len.ensures) in
    c.place_of-place.ensures
    ∙ ap (λ (l : List ℕ). get_or c.places_of-of.result (get_or l i 0) 0) (view_count target c.count-len.result c.count-len.ensures)
    ∙ says.1 (get_or (view target) i 0) (c.requires.1.inside (get_or (view target) i 0) (place_in_lem 0 (view target) i more))

pub loop-r-preserved : goal.loop-r-preserved
loop-r-preserved c =
    let now = c.loop-r in
    let target = c.args.target in
    let len = c.count-len.result in
    let seen : take len target.rules ≡ view target = view_count target len c.count-len.ensures in
    let more : now.r-index < length (view target) = omega (arith, c.loop-r-test.true, c.count-len.ensures) in
    let at-place = (goal.at.loop-r-preserved c).After-place_of-place in
    elim c.if-last-place.branch [
      | then-last-place w ↦ (
        ap length w.kept-is ∙ length-set now.kept now.count _ ∙ now.invariant.0,
        omega (arith, w.count-is),
        λ initial says d. rw (w.kept-is, w.count-is, w.last-is, seen, looked_up at-place initial says)
            (choice_keeps initial (view target) now.kept now.count now.last now.r-index
            (rw seen at (now.invariant.2 initial says d)) more d (omega (arith, below (goal.at.loop-r-preserved c).In-loop-r, now.invariant.0, now.invariant.1))
            (rw (looked_up at-place initial says) at w.if-last-place.true)),
      )
      | else-last-place w ↦ (
        ap length w.kept-is ∙ now.invariant.0,
        omega (arith, w.count-is),
        λ initial says d. rw (w.kept-is, w.count-is, w.last-is, seen)
            (choice_passes initial (view target) now.kept now.count now.last now.r-index
            (rw seen at (now.invariant.2 initial says d)) more d (rw (looked_up at-place initial says) at w.if-last-place.false)),
      )
    ]

pub returns : goal.returns
unfolding view
returns c =
    let now = c.loop-r in
    let initial = view c.args.initial in
    let target = c.args.target in
    let len = c.count-len.result in
    let seen : take len target.rules ≡ view target = view_count target len c.count-len.ensures in
    let says : Says c.places_of-of.result initial = places_say initial c.requires.0.distinct c.places_of-of.ensures in
    choice_ends initial (view target) now.kept now.count now.last now.r-index
    (rw seen at (now.invariant.2 initial says c.requires.0.distinct)) (omega (arith, c.loop-r-test.false, c.count-len.ensures))
