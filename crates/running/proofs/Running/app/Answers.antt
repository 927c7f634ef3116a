-- `app` gives what the definition gives: each refusal follows from the tests on the way, and the new list is the old one's slots with one
-- more filled. Assumes nothing.
use mathlib.Core.Path.{◌≡◌, ◌∙◌}
use mathlib.Core.Bool.{true}
use borrow.Author.Tests.{lt-ltb, le-ltb, eq-eqb, ne_eqb}
use lib.Dec.{eqb}
use Rattle.running.specs.Running.{view, appended, roomy}
use Rattle.running.proofs.Edits.{fails, goes, gives, view_count, shows_appended}
use Rattle.running.proofs.Running.app.Goals as goal
use Rattle.running.proofs.Running.app.Goals.{Else-place-ne0}

pub returns-then-size-r : goal.returns-then-size-r
unfolding appended
returns-then-size-r c = c.refused.ensures ∙ fails _ _ _ (le-ltb _ _ c.if-size-r.true)

-- the second test passed: r stands nowhere
nowhere : (c : Else-place-ne0) → eqb c.args.place 0 ≡ true
nowhere c = eq-eqb _ _ c.if-place-ne0.false

pub returns-then-place-ne0 : goal.returns-then-place-ne0
unfolding appended
returns-then-place-ne0 c =
    c.refused-then-place-ne0.ensures
    ∙ fails _ _ _ (ne_eqb _ _ c.if-place-ne0.true)
    ∙ goes _ _ _ (lt-ltb _ _ c.if-size-r.false)

pub returns-then-len-ge-MOST_RULES : goal.returns-then-len-ge-MOST_RULES
unfolding appended roomy
returns-then-len-ge-MOST_RULES c =
    c.refused-then-len-ge-MOST_RULES.ensures
    ∙ fails _ _ _ (le-ltb _ _ (rw c.count-len.ensures at c.if-len-ge-MOST_RULES.true))
    ∙ goes _ _ _ (nowhere (goal.at.returns-then-len-ge-MOST_RULES c).Else-place-ne0)
    ∙ goes _ _ _ (lt-ltb _ _ c.if-size-r.false)

pub returns : goal.returns
unfolding appended roomy
returns c =
    let counted = c.count-len in
    let self = c.args.self in
    let room = c.if-len-ge-MOST_RULES.false in
    c.changed.ensures
    ∙ gives _ (view self)
    (shows_appended counted.result c.args.r self.rules (view self) (view_count self counted.result counted.ensures)
    (rw (c.well_formed.0.1.1.0.1.0.1) room))
    ∙ goes _ _ _ (lt-ltb _ _ (rw counted.ensures at room))
    ∙ goes _ _ _ (nowhere (goal.at.returns c).Else-place-ne0)
    ∙ goes _ _ _ (lt-ltb _ _ c.if-size-r.false)
