-- `take_one` does what the definition does for one rule of the target, by its four cases: each way out of the code is one of them, and the law
-- of that case in TakeOne closes it. Assumes nothing.
use Prim.Native.Nat.{◌≤◌, ◌<◌}
use native.Mathlib.Omega.{arith}
use mathlib.Core.Path.{◌≡◌, refl, sym, ◌∙◌}
use lib.ListN.{length}
use lib.Dec.{eqb}
use Rattle.running.specs.Running.{view}
use Rattle.first_stage.proofs.Looking.{found_fits}
use Rattle.first_stage.proofs.Edits.{ins_gives, mov_gives}
use Rattle.first_stage.proofs.TakeOne.{did_insert, did_reach, did_pass, did_stay, did_move}
use Rattle.first_stage.proofs.take_one.Goals as goal
use Rattle.first_stage.proofs.take_one.Goals.{After-seek-at, Else-at-count}

pub returns-then-not-old : goal.returns-then-not-old
returns-then-not-old c =
    let a = c.args in
    let pre = c.requires in
    let stage = a.stage in
    let gives =
    ins_gives c.ins-edited.result (view stage.list) _ a.r c.ins-edited.ensures pre.2 (omega arith) (omega (arith, pre.0)) pre.1 in
    λ h st kept. did_insert stage h st a.r a.field.now c.told-field pre.3 pre.2 a.old a.keep c.joined_by.result _
    c.ins-edited.result.list c.if-not-old.true gives c.joined_by.ensures.0 c.joined_by.ensures.1

-- the rule is found inside the list, or at its end
seek_fits : (c : After-seek-at) → c.seek-at.result ≤ length (view c.args.stage.list)
seek_fits c =
    let a = c.args in
    found_fits (λ x. eqb x a.r) (view a.stage.list) a.stage.front c.seek-at.result c.requires.0 c.seek-at.ensures

-- a rule that is found has a place in the list, not before the front's end
inside : (c : Else-at-count)
    → let stage = c.args.stage in
    (c.seek-at.result < length (view stage.list)) × (stage.front ≤ c.seek-at.result)
inside c =
    let other : ¬ (c.seek-at.result ≡ length (view c.args.stage.list)) =
    λ e. c.if-at-count.false (e ∙ sym c.count.ensures) in
    (omega (arith, seek_fits (goal.at.Else-at-count c).After-seek-at), omega (arith, c.seek-at.ensures))

pub overflow_add-at : goal.overflow_add-at
overflow_add-at c = record { fits = omega (arith, seek_fits (goal.at.overflow_add-at c).After-seek-at) }

pub returns-then-keep : goal.returns-then-keep
returns-then-keep c =
    let a = c.args in
    let pre = c.requires in
    λ h st kept. did_reach a.stage h st a.r a.field.now c.told-field pre.3 pre.2 a.old a.keep c.joined.result _
    c.if-not-old.false c.seek-at.result c.seek-at.ensures
    c.if-keep.true (kept c.if-keep.true) c.joined.ensures refl

pub returns-then-at-count : goal.returns-then-at-count
returns-then-at-count c =
    let a = c.args in
    let pre = c.requires in
    λ h st kept. did_pass a.stage h st a.r a.field.now c.told-field pre.3 pre.2 a.old a.keep a.stage _
    c.if-not-old.false c.seek-at.result c.seek-at.ensures
    c.if-keep.false (c.if-at-count.true ∙ c.count.ensures) refl refl

pub returns-then-at-front : goal.returns-then-at-front
returns-then-at-front c =
    let a = c.args in
    let pre = c.requires in
    λ h st kept. did_stay a.stage h st a.r a.field.now c.told-field pre.3 pre.2 a.old a.keep c.joined-then-at-front.result _
    c.if-not-old.false c.seek-at.result c.seek-at.ensures
    c.if-keep.false (λ e. c.if-at-count.false (e ∙ sym c.count.ensures)) c.if-at-front.true c.joined-then-at-front.ensures refl

pub overflow_add-place : goal.overflow_add-place
overflow_add-place c = record { fits = omega (arith, inside (goal.at.overflow_add-place c).Else-at-count) }

pub overflow_cast-place : goal.overflow_cast-place
overflow_cast-place c = record { fits = omega (arith, inside (goal.at.overflow_cast-place c).Else-at-count) }

pub returns : goal.returns
returns c =
    let a = c.args in
    let pre = c.requires in
    let gives =
    mov_gives c.mov-edited.result (view a.stage.list) _ _ c.mov-edited.ensures (omega arith) (omega (arith, inside (goal.at.returns c).Else-at-count)) (omega arith) (omega (arith, inside (goal.at.returns c).Else-at-count)) in
    λ h st kept. did_move a.stage h st a.r a.field.now c.told-field pre.3 pre.2 a.old a.keep c.joined_by-2.result _
    c.if-not-old.false c.seek-at.result c.seek-at.ensures
    c.if-keep.false (λ e. c.if-at-count.false (e ∙ sym c.count.ensures)) c.mov-edited.result.list c.if-at-front.false
    gives c.joined_by-2.ensures.0 c.joined_by-2.ensures.1
