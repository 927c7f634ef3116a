-- `del_rule` gives what the definition gives: each refusal follows from the tests on the way, and the new list is the old one's slots with
-- one closed. Assumes nothing.
use Prim.Native.Nat.{◌≤◌, ◌<◌}
use native.Mathlib.Omega.{arith}
use mathlib.Core.Path.{◌≡◌, ◌∙◌, ap}
use mathlib.Core.Bool.{true, not}
use borrow.Author.Tests.{lt-ltb, le-ltb}
use lib.ListN.{length}
use Rattle.policy.specs.Command.{within}
use Rattle.running.specs.Running.{view, rule_deleted}
use Rattle.running.proofs.Edits.{fails, goes, gives, out_of_range, in_range, place_bounds, view_count, shows_lifted}
use Rattle.running.proofs.Running.del_rule.Goals as goal
use Rattle.running.proofs.Running.del_rule.Goals.{Else-not-in_range}

pub returns-then-size-r : goal.returns-then-size-r
unfolding rule_deleted
returns-then-size-r c = c.refused.ensures ∙ fails _ _ _ (le-ltb _ _ c.if-size-r.true)

-- the test passed: a place of the list, and a slot of the array
within_list : (c : Else-not-in_range) → within c.args.place (length (view c.args.self)) ≡ true
within_list c = in_range _ c.in_range.ensures c.count-len.ensures (ap not c.if-not-in_range.false)

pub returns-then-not-in_range : goal.returns-then-not-in_range
unfolding rule_deleted
returns-then-not-in_range c =
    c.refused-then-not-in_range.ensures
    ∙ fails _ _ _ (out_of_range _ c.in_range.ensures c.count-len.ensures (ap not c.if-not-in_range.true))
    ∙ goes _ _ _ (lt-ltb _ _ c.if-size-r.false)

bounds : (c : Else-not-in_range) →
    (0 < c.args.place)
    × (c.args.place ≤ c.count-len.result)
    × (c.count-len.result ≤ 1024)
bounds c =
    let slots = c.well_formed.0.1.1.0.1.0.1 in
    place_bounds c.args.self _ _ slots c.count-len.ensures (within_list c)

pub overflow_sub-place : goal.overflow_sub-place
overflow_sub-place c = (bounds (goal.at.overflow_sub-place c).Else-not-in_range).0

pub closed-rules-requires : goal.closed-rules-requires
closed-rules-requires c = omega (arith, bounds (goal.at.closed-rules-requires c).Else-not-in_range)

pub overflow_sub-len : goal.overflow_sub-len
overflow_sub-len c = omega (arith, bounds (goal.at.overflow_sub-len c).Else-not-in_range)

pub returns : goal.returns
unfolding rule_deleted
returns c =
    let self = c.args.self in
    c.changed.ensures
    ∙ gives _ (view self)
    (shows_lifted _ c.args.place self.rules c.closed-rules.result (view self)
    (view_count self _ c.count-len.ensures) (bounds (goal.at.returns c).Else-not-in_range).0 (bounds (goal.at.returns c).Else-not-in_range).1 c.closed-rules.ensures)
    ∙ goes _ _ _ (within_list (goal.at.returns c).Else-not-in_range)
    ∙ goes _ _ _ (lt-ltb _ _ c.if-size-r.false)
