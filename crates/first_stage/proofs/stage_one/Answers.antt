-- `stage_one` does what the definition does in the first stage. The loop's invariant is `Turn`: the list stands for two halves from which the
-- rest of the target leads to the same end, and the commands so far are sent. Assumes nothing.
use Prim.Native.Nat.{◌<◌}
use native.Mathlib.Omega.{arith}
use mathlib.Core.Path.{◌≡◌, refl}
use lib.ListN.{length, take, get_or}
use Rattle.policy.proofs.Lists.{place_in_lem}
use Rattle.policy.proofs.Order.{sublist_distinct}
use Rattle.policy.proofs.Front.{Given}
use Rattle.running.specs.Running.{view}
use Rattle.places.specs.Places.{Says}
use Rattle.running.proofs.Edits.{view_count}
use Rattle.first_stage.proofs.ByPlace.{places_say, place_tells}
use Rattle.plans.proofs.Marked.{marks_none}
use Rattle.first_stage.proofs.FirstStage.{Turn, turn_first, turn_length, turn_more, turn_last}
use Rattle.first_stage.proofs.stage_one.Goals as goal
use Rattle.first_stage.proofs.stage_one.Goals.{Start, After-count-len, At-loop-r, In-loop-r}

-- the two policies and the rules to keep
given : (c : Start) → Given 1024 (view c.args.initial) (view c.args.target) (view c.args.kept)
given c =
    let accepted = c.requires.0 in
    record {
      old = accepted.first;
      new = accepted.last;
      kept_initial = accepted.keepable.0;
      kept_target = accepted.keepable.1;
    }

-- the side arrays are right for the initial policy and for the rules to keep
says_initial : (c : After-count-len) → Says c.places_of-of.result (view c.args.initial)
says_initial c =
    places_say (view c.args.initial) c.requires.0.first.distinct c.places_of-of.ensures

says_kept : (c : After-count-len) → Says c.places_of-kept_of.result (view c.args.kept)
says_kept c =
    places_say (view c.args.kept) (sublist_distinct c.requires.0.keepable.0 c.requires.0.first.distinct) c.places_of-kept_of.ensures

pub loop-r-init : goal.loop-r-init
loop-r-init c = λ initial kept is says keeps given. turn_first initial _ kept given _ c.args.initial _ is refl marks_none c.told-field

-- the invariant, of the policies that are planned for
turn : (c : At-loop-r)
    → Turn (view c.args.initial) (view c.args.target) (view c.args.kept) c.args.field.now c.loop-r.stage c.loop-r.field c.loop-r.r-index
turn c =
    let counted = (goal.at.At-loop-r c).After-count-len in
    let shown : take c.count-len.result c.args.target.rules ≡ view c.args.target = view_count c.args.target _ c.count-len.ensures in
    rw shown at
    (c.loop-r.invariant (view c.args.initial) (view c.args.kept) refl (says_initial counted) (says_kept counted)
    (rw shown (given (goal.at.At-loop-r c).Start)))

-- an index of the target
below : (c : In-loop-r) → c.loop-r.r-index < 512
below c = omega (arith, c.loop-r-test.true, c.count-len.ensures, c.requires.2)

-- the next rule of the target
small : (c : In-loop-r) → get_or (take c.count-len.result c.args.target.rules) c.loop-r.r-index 0 < 1024
small c =
    let more : c.loop-r.r-index < length (view c.args.target) = omega (arith, c.loop-r-test.true, c.count-len.ensures) in
    rw (view_count c.args.target c.count-len.result c.count-len.ensures)
    ((given (goal.at.In-loop-r c).Start).new.inside _ (place_in_lem 0 (view c.args.target) c.loop-r.r-index more))

pub take_one-stage-requires : goal.take_one-stage-requires
take_one-stage-requires c =
    let turns = (goal.at.take_one-stage-requires c).In-loop-r in
    let here = turn (goal.at.take_one-stage-requires c).At-loop-r in
    let size = turn_length _ _ _ (given (goal.at.take_one-stage-requires c).Start) _ _ _ _ here in (
      size.0,
      omega (arith, below turns, size.1, c.requires.1),
      small turns,
      omega (arith, below turns, here.counted, here.few),
    )

pub loop-r-preserved : goal.loop-r-preserved
loop-r-preserved c =
    let now = c.loop-r in
    let target = c.args.target in
    let len = c.count-len.result in
    let r = get_or (take len target.rules) now.r-index 0 in
    let small-r = small (goal.at.loop-r-preserved c).In-loop-r in
    λ initial keep is says keeps given.
    turn_more initial (take len target.rules) keep given _ now.stage now.field now.r-index (now.invariant initial keep is says keeps given)
    r _ _ c.take_one-stage.result _ c.loop-r-test.true refl
    (place_tells c.places_of-of.result initial r c.place_of.result says small-r c.place_of.ensures)
    (place_tells c.places_of-kept_of.result keep r c.place_of-in-loop-r.result keeps small-r c.place_of-in-loop-r.ensures)
    c.take_one-stage.ensures

pub returns : goal.returns
returns c =
    turn_last _ _ _ (given (goal.at.returns c).Start) _ _ _ _ (turn (goal.at.returns c).At-loop-r)
    (omega (arith, c.loop-r-test.false, c.count-len.ensures))
