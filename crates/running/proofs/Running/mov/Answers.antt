-- `mov` gives what the definition gives: each refusal follows from its test, and the new list is the old one's slots with one closed and
-- then one opened. Assumes nothing.
use Prim.Native.Nat.{◌≤◌, ◌<◌}
use native.Mathlib.Omega.{arith}
use mathlib.Core.Path.{◌≡◌, ◌∙◌, ap}
use mathlib.Core.Bool.{true, not}
use lib.ListN.{length}
use Rattle.policy.specs.Command.{within}
use Rattle.running.specs.Running.{view, relocated}
use Rattle.running.proofs.Edits.{fails, goes, gives, out_of_range, in_range, place_bounds, view_count, shows_moved}
use Rattle.running.proofs.Running.mov.Goals as goal
use Rattle.running.proofs.Running.mov.Goals.{Else-not-in_range, Else-not-in_range-2}

pub returns-then-not-in_range : goal.returns-then-not-in_range
unfolding relocated
returns-then-not-in_range c =
    c.refused.ensures
    ∙ fails _ _ _ (rw (out_of_range _ c.in_range.ensures c.count-len.ensures (ap not c.if-not-in_range.true)))

-- the first test passed
from_list : (c : Else-not-in_range) → within c.args.i (length (view c.args.self)) ≡ true
from_list c = in_range _ c.in_range.ensures c.count-len.ensures (ap not c.if-not-in_range.false)

-- the second test passed
to_list : (c : Else-not-in_range-2) → within c.args.j (length (view c.args.self)) ≡ true
to_list c = in_range _ c.in_range-2.ensures c.count-len.ensures (ap not c.if-not-in_range-2.false)

pub returns-then-not-in_range-2 : goal.returns-then-not-in_range-2
unfolding relocated
returns-then-not-in_range-2 c =
    c.refused-then-not-in_range-2.ensures
    ∙ fails _ _ _ (rw (from_list (goal.at.returns-then-not-in_range-2 c).Else-not-in_range, out_of_range _ c.in_range-2.ensures c.count-len.ensures (ap not c.if-not-in_range-2.true)))

from : (c : Else-not-in_range-2) →
    (0 < c.args.i)
    × (c.args.i ≤ c.count-len.result)
    × (c.count-len.result ≤ 1024)
from c =
    let slots = c.well_formed.0.1.1.0.1.0.1 in
    place_bounds c.args.self _ _ slots c.count-len.ensures (from_list (goal.at.Else-not-in_range-2 c).Else-not-in_range)

to : (c : Else-not-in_range-2) →
    (0 < c.args.j)
    × (c.args.j ≤ c.count-len.result)
    × (c.count-len.result ≤ 1024)
to c =
    let slots = c.well_formed.0.1.1.0.1.0.1 in
    place_bounds c.args.self _ _ slots c.count-len.ensures (to_list c)

pub returns : goal.returns
unfolding relocated
returns c =
    let counted = c.count-len in
    let self = c.args.self in
    c.changed.ensures
    ∙ gives _ (view self)
    (shows_moved counted.result c.args.i c.args.j self.rules c.closed-lifted.result c.opened-rules.result
    (view self) (view_count self _ counted.ensures) (from (goal.at.returns c).Else-not-in_range-2).0 (from (goal.at.returns c).Else-not-in_range-2).1 (to (goal.at.returns c).Else-not-in_range-2).1 c.closed-lifted.ensures c.opened-rules.ensures)
    ∙ goes _ _ _ (rw (from_list (goal.at.returns c).Else-not-in_range, to_list (goal.at.returns c).Else-not-in_range-2))

pub overflow_sub-r : goal.overflow_sub-r
overflow_sub-r c = (from (goal.at.overflow_sub-r c).Else-not-in_range-2).0

pub offset_bounds-self-i : goal.offset_bounds-self-i
offset_bounds-self-i c = record { fits = omega (arith, from (goal.at.offset_bounds-self-i c).Else-not-in_range-2) }

pub bounds-self-i : goal.bounds-self-i
bounds-self-i c = omega (arith, from (goal.at.bounds-self-i c).Else-not-in_range-2)

pub overflow_sub-i : goal.overflow_sub-i
overflow_sub-i c = (from (goal.at.overflow_sub-i c).Else-not-in_range-2).0

pub closed-lifted-requires : goal.closed-lifted-requires
closed-lifted-requires c = omega (arith, from (goal.at.closed-lifted-requires c).Else-not-in_range-2)

pub overflow_sub-j : goal.overflow_sub-j
overflow_sub-j c = omega (arith, from (goal.at.overflow_sub-j c).Else-not-in_range-2, to (goal.at.overflow_sub-j c).Else-not-in_range-2)

pub overflow_sub-len : goal.overflow_sub-len
overflow_sub-len c = omega (arith, to (goal.at.overflow_sub-len c).Else-not-in_range-2)

pub opened-rules-requires : goal.opened-rules-requires
opened-rules-requires c =
    omega (arith, from (goal.at.opened-rules-requires c).Else-not-in_range-2, to (goal.at.opened-rules-requires c).Else-not-in_range-2)
