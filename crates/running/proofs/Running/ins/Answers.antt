-- `ins` gives what the definition gives: each refusal follows from the tests on the way, and the new list is the old one's slots with one
-- opened. Assumes nothing.
use Prim.Native.Nat.{suc, ◌+◌, ◌≤◌, ◌<◌}
use native.Mathlib.Omega.{arith}
use native.Mathlib.Numerals.{add-one}
use mathlib.Core.Path.{◌≡◌, ◌∙◌, ap}
use mathlib.Core.Bool.{true, not}
use borrow.Author.Tests.{lt-ltb, le-ltb, eq-eqb, ne_eqb}
use lib.ListN.{length}
use Rattle.policy.specs.Command.{within, failed}
use Rattle.policy.specs.declared.Fault.TheVariants.{Number}
use Rattle.running.specs.Running.{view, shown, given, inserted, roomy}
use Rattle.running.proofs.Edits.{fails, goes, gives, out_of_range, in_range, within_bounds, view_count, view_fits, shows_placed}
use Rattle.running.proofs.Running.ins.Goals as goal
use Rattle.running.proofs.Running.ins.Goals.{After-count-len, Else-not-in_range}

-- the first refusal is 23
pub returns-then-size-r : goal.returns-then-size-r
unfolding inserted
returns-then-size-r c =
    let first : shown c.refused.result ≡ given _ (failed Number) = c.refused.ensures in
    first ∙ fails _ _ _ (le-ltb _ _ c.if-size-r.true)

pub overflow_add-len : goal.overflow_add-len
overflow_add-len c =
    let slots = c.well_formed.0.1.1.0.1.0.1 in
    record { fits = omega (arith, c.count-len.ensures, view_fits c.args.self) }

-- one more than the length
top : (c : After-count-len) → c.count-len.result + 1 ≡ suc (length (view c.args.self))
top c = add-one c.count-len.result ∙ ap suc c.count-len.ensures

pub returns-then-not-in_range : goal.returns-then-not-in_range
unfolding inserted
returns-then-not-in_range c =
    c.refused-then-not-in_range.ensures
    ∙ fails _ _ _ (out_of_range _ c.in_range.ensures (top (goal.at.returns-then-not-in_range c).After-count-len) (ap not c.if-not-in_range.true))
    ∙ goes _ _ _ (lt-ltb _ _ c.if-size-r.false)

-- the test passed
within_list : (c : Else-not-in_range) → within c.args.i (suc (length (view c.args.self))) ≡ true
within_list c = in_range _ c.in_range.ensures (top (goal.at.Else-not-in_range c).After-count-len) (ap not c.if-not-in_range.false)

pub returns-then-place-ne0 : goal.returns-then-place-ne0
unfolding inserted
returns-then-place-ne0 c =
    c.refused-then-place-ne0.ensures
    ∙ fails _ _ _ (ne_eqb _ _ c.if-place-ne0.true)
    ∙ goes _ _ _ (within_list (goal.at.returns-then-place-ne0 c).Else-not-in_range)
    ∙ goes _ _ _ (lt-ltb _ _ c.if-size-r.false)

pub returns-then-len-ge-MOST_RULES : goal.returns-then-len-ge-MOST_RULES
unfolding inserted roomy
returns-then-len-ge-MOST_RULES c =
    c.refused-then-len-ge-MOST_RULES.ensures
    ∙ fails _ _ _ (le-ltb _ _ (rw c.count-len.ensures at c.if-len-ge-MOST_RULES.true))
    ∙ goes _ _ _ (eq-eqb _ _ c.if-place-ne0.false)
    ∙ goes _ _ _ (within_list (goal.at.returns-then-len-ge-MOST_RULES c).Else-not-in_range)
    ∙ goes _ _ _ (lt-ltb _ _ c.if-size-r.false)

-- the place in its range
bounds : (c : Else-not-in_range) → (0 < c.args.i) × (c.args.i ≤ suc c.count-len.result)
bounds c = omega (arith, within_bounds _ _ (within_list c), c.count-len.ensures)

pub overflow_sub-i : goal.overflow_sub-i
overflow_sub-i c = (bounds (goal.at.overflow_sub-i c).Else-not-in_range).0

pub opened-rules-requires : goal.opened-rules-requires
opened-rules-requires c = omega (arith, bounds (goal.at.opened-rules-requires c).Else-not-in_range, c.if-len-ge-MOST_RULES.false)

pub returns : goal.returns
unfolding inserted roomy
returns c =
    let counted = c.count-len in
    let self = c.args.self in
    c.changed.ensures
    ∙ gives _ (view self) (rw add-one
    (shows_placed _ c.args.i c.args.r self.rules c.opened-rules.result (view self)
    (view_count self _ counted.ensures) (bounds (goal.at.returns c).Else-not-in_range).1 c.opened-rules.ensures))
    ∙ goes _ _ _ (lt-ltb _ _ (rw counted.ensures at c.if-len-ge-MOST_RULES.false))
    ∙ goes _ _ _ (eq-eqb _ _ c.if-place-ne0.false)
    ∙ goes _ _ _ (within_list (goal.at.returns c).Else-not-in_range)
    ∙ goes _ _ _ (lt-ltb _ _ c.if-size-r.false)
