-- `stage_two` does what the definition does in the second stage. The loop's invariant is `Pass`: the list is what is left of the front and the
-- settled rules behind it, from which the rest of the stage is done, and the commands so far are sent. Assumes nothing.
use Prim.Native.Nat.{ℕ, suc, ◌-◌, ◌≤◌, ◌<◌}
use native.Mathlib.Omega.{arith}
use mathlib.Core.Path.{◌≡◌, refl, ◌∙◌}
use mathlib.Core.Bool.{Bool, false}
use mathlib.Core.List.{List}
use lib.ListN.{length, get_or}
use Rattle.policy.proofs.Lists.{place_in_lem}
use Rattle.running.specs.Running.{view}
use Rattle.places.specs.Places.{Says}
use Rattle.running.proofs.Edits.{view_fits}
use Rattle.first_stage.specs.declared.Stage.{Stage}
use Rattle.first_stage.specs.FirstStage.{front_of}
use Rattle.first_stage.proofs.ByPlace.{places_say}
use Rattle.first_stage.proofs.Looking.{rule_shown}
use Rattle.second_stage.proofs.SecondStage.{Pass, pass_at, pass_first, pass_fits, pass_rule, pass_settled, pass_room, pass_waiting, pass_last}
use Rattle.second_stage.proofs.stage_two.Goals as goal
use Rattle.second_stage.proofs.stage_two.Goals.{After-places_of-to, At-loop-at, In-loop-at}

pub loop-at-init : goal.loop-at-init
loop-at-init c =
    let stage = c.args.stage in
    λ target policy says. pass_at (omega (arith, c.count-len.ensures))
    (pass_first target stage.settled (view stage.list) _ stage.sent stage.list refl c.told-field (omega (arith, c.requires.2)))

-- the side array is right for the target
says_target : (c : After-places_of-to) → Says c.places_of-to.result (view c.args.target)
says_target c =
    places_say (view c.args.target) c.requires.0.distinct c.places_of-to.ensures

-- the invariant, of the target that is planned for
pass : (c : At-loop-at)
    → let stage = c.args.stage in
    Pass (view c.args.target) stage.settled (view stage.list) c.args.field.now stage.sent c.loop-at.list c.loop-at.sent c.loop-at.field
    c.loop-at.at
pass c = c.loop-at.invariant (view c.args.target) c.requires.0 (says_target (goal.at.At-loop-at c).After-places_of-to)

-- the list has no more rules than slots
below : (c : At-loop-at) → c.count-len.result ≤ 1024
below c =
    omega (
      arith,
      c.count-len.ensures,
      view_fits c.args.stage.list,
      c.well_formed.0.1.1.0.1.1.0.1.0.1,
    )

module _ (c : In-loop-at) where
  abbrev stage : Stage
  stage = c.args.stage

  abbrev at : ℕ
  at = c.loop-at.at - 1

  -- the last rule that is left of the front stands at that index
  again : {target : List ℕ}
      → Pass target stage.settled (view stage.list) c.args.field.now stage.sent c.loop-at.list c.loop-at.sent c.loop-at.field c.loop-at.at
      → Pass target stage.settled (view stage.list) c.args.field.now stage.sent c.loop-at.list c.loop-at.sent c.loop-at.field (suc at)
  again p = pass_at (omega (arith, c.loop-at-test.true)) p

  here : Pass (view c.args.target) stage.settled (view stage.list) c.args.field.now stage.sent c.loop-at.list c.loop-at.sent c.loop-at.field (suc at)
  here = again (pass (goal.at.In-loop-at c).At-loop-at)

  inside : suc at ≤ length (view c.loop-at.list)
  inside = pass_fits _ _ _ _ _ _ _ _ _ here

  -- it is the one that stood there at the start of the stage
  next : get_or c.loop-at.list.rules at 0 ≡ get_or (view stage.list) at 0
  next = rule_shown c.loop-at.list at inside ∙ pass_rule _ _ _ _ _ _ _ _ _ here

  small : get_or c.loop-at.list.rules at 0 < 1024
  small =
      let first = view stage.list in
      rw next (c.requires.1 (get_or first at 0) (place_in_lem 0 first at here.inside))

  mark : {b : Bool} → get_or stage.settled (get_or c.loop-at.list.rules at 0) false ≡ b → get_or stage.settled (get_or (view stage.list) at 0) false ≡ b
  mark e = rw next at e

  -- a waiting rule: there is room for its command
  room : get_or stage.settled (get_or c.loop-at.list.rules at 0) false ≡ false → c.loop-at.sent < 1024
  unfolding front_of
  room unmarked = pass_room _ _ _ _ _ _ _ _ _ here (mark unmarked) c.requires.2

pub offset_bounds-list-at : goal.offset_bounds-list-at
offset_bounds-list-at c = omega (arith, below (goal.at.offset_bounds-list-at c).At-loop-at, c.loop-at-test.true)

pub bounds-list-at : goal.bounds-list-at
bounds-list-at c = omega (arith, below (goal.at.bounds-list-at c).At-loop-at, c.loop-at-test.true)

pub overflow_cast-r : goal.overflow_cast-r
overflow_cast-r c = record { fits = omega (arith, small (goal.at.overflow_cast-r c).In-loop-at) }

pub bounds-settled-r : goal.bounds-settled-r
bounds-settled-r c = small (goal.at.bounds-settled-r c).In-loop-at

pub overflow_add-at : goal.overflow_add-at
overflow_add-at c = record { fits = omega (arith, below (goal.at.overflow_add-at c).At-loop-at) }

pub settle-list-requires : goal.settle-list-requires
settle-list-requires c =
    let turn = (goal.at.settle-list-requires c).In-loop-at in (
      omega arith,
      omega (arith, inside turn),
      small turn,
      room turn c.if-not-settled-r.true,
    )

pub overflow_add-sent : goal.overflow_add-sent
overflow_add-sent c = record { fits = omega (arith, room (goal.at.overflow_add-sent c).In-loop-at c.if-not-settled-r.true) }

pub loop-at-preserved-then-not-settled-r : goal.loop-at-preserved-then-not-settled-r
loop-at-preserved-then-not-settled-r c =
    let turn = (goal.at.loop-at-preserved-then-not-settled-r c).In-loop-at in
    λ target policy says.
    pass_waiting _ _ _ _ _ _ _ _ _ (again turn (c.loop-at.invariant target policy says)) (mark turn c.if-not-settled-r.true) c.places_of-to.result _ _ _ _
    policy says (omega arith) (next turn) c.settle-list.ensures

pub loop-at-preserved : goal.loop-at-preserved
loop-at-preserved c =
    let turn = (goal.at.loop-at-preserved c).In-loop-at in
    λ target policy says.
    pass_settled _ _ _ _ _ _ _ _ _ (again turn (c.loop-at.invariant target policy says)) (mark turn c.if-not-settled-r.false)

pub returns : goal.returns
unfolding front_of
returns c =
    let stage = c.args.stage in
    let end : c.loop-at.at ≡ 0 = omega (arith, c.loop-at-test.false) in
    pass_last (view c.args.target) stage.settled (view stage.list) _ stage.sent _ _ _ (pass_at end (pass (goal.at.returns c).At-loop-at))
