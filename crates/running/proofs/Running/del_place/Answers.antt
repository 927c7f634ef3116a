-- `del_place` gives what the definition gives: the refusal follows from the test, and the new list is the old one's slots with one closed.
-- Assumes nothing.
use Prim.Native.Nat.{◌≤◌, ◌<◌}
use native.Mathlib.Omega.{arith}
use mathlib.Core.Path.{◌≡◌, ◌∙◌, ap}
use mathlib.Core.Bool.{true, not}
use lib.ListN.{length}
use Rattle.policy.specs.Command.{within}
use Rattle.running.specs.Running.{view, place_deleted}
use Rattle.running.proofs.Edits.{fails, goes, gives, out_of_range, in_range, place_bounds, view_count, shows_lifted}
use Rattle.running.proofs.Running.del_place.Goals as goal
use Rattle.running.proofs.Running.del_place.Goals.{Else-not-in_range}

pub returns-then-not-in_range : goal.returns-then-not-in_range
unfolding place_deleted
returns-then-not-in_range c =
    c.refused.ensures
    ∙ fails _ _ _ (out_of_range _ c.in_range.ensures c.count-len.ensures (ap not c.if-not-in_range.true))

-- the test passed
within_list : (c : Else-not-in_range) → within c.args.i (length (view c.args.self)) ≡ true
within_list c = in_range _ c.in_range.ensures c.count-len.ensures (ap not c.if-not-in_range.false)

bounds : (c : Else-not-in_range) → (0 < c.args.i) × (c.args.i ≤ c.count-len.result) × (c.count-len.result ≤ 1024)
bounds c =
    place_bounds c.args.self _ _ (c.well_formed.0.1.1.0.1.0.1) c.count-len.ensures (within_list c)

pub overflow_sub-i : goal.overflow_sub-i
overflow_sub-i c = (bounds (goal.at.overflow_sub-i c).Else-not-in_range).0

pub closed-rules-requires : goal.closed-rules-requires
closed-rules-requires c = omega (arith, bounds (goal.at.closed-rules-requires c).Else-not-in_range)

pub overflow_sub-len : goal.overflow_sub-len
overflow_sub-len c = omega (arith, bounds (goal.at.overflow_sub-len c).Else-not-in_range)

pub returns : goal.returns
unfolding place_deleted
returns c =
    let counted = c.count-len in
    let self = c.args.self in
    c.changed.ensures
    ∙ gives _ (view self)
    (shows_lifted _ c.args.i self.rules c.closed-rules.result (view self)
    (view_count self _ counted.ensures) (bounds (goal.at.returns c).Else-not-in_range).0 (bounds (goal.at.returns c).Else-not-in_range).1 c.closed-rules.ensures)
    ∙ goes _ _ _ (within_list (goal.at.returns c).Else-not-in_range)
