-- `put_list` meets its contract: turned away with nothing written, or the whole list written. The loop's invariant: the first k numbers of the
-- list stand in the place, two bytes each. Assumes nothing.
use Prim.Native.Nat.{◌≤◌}
use native.Mathlib.Omega.{arith}
use mathlib.Core.Path.{◌∙◌}
use lib.ListN.{take}
use lib.Seq.{take_all}
use Rattle.running.specs.Running.{view}
use Rattle.running.proofs.Edits.{view_count, view_fits}
use Rattle.last_list.proofs.LastList.{none_put, one_more_put, no_room, all_put}
use Rattle.last_list.proofs.put_list.Goals as goal
use Rattle.last_list.proofs.put_list.Goals.{After-count-count}

-- the list has no more rules than there are slots
short : (c : After-count-count) → c.count-count.result ≤ 1024
short c =
    let slots = c.well_formed.1.0.1.1.0.1.0.1 in
    omega (arith, c.count-count.ensures, view_fits c.args.list)

pub overflow_mul-needed : goal.overflow_mul-needed
overflow_mul-needed c = omega (arith, short c)

pub returns-then-place-needed : goal.returns-then-place-needed
returns-then-place-needed c =
    no_room c.args.place.now (view c.args.list) c.count-count.ensures c.if-place-needed.true

pub shared_ref_as_front-r-items : goal.shared_ref_as_front-r-items
shared_ref_as_front-r-items c = short (goal.at.shared_ref_as_front-r-items c).After-count-count

pub loop-k-init : goal.loop-k-init
loop-k-init c = none_put c.args.place.now (take c.count-count.result c.args.list.rules)

pub loop-k-preserved : goal.loop-k-preserved
loop-k-preserved c =
    one_more_put c.args.place.now (take c.count-count.result c.args.list.rules) c.loop-k.k c.loop-k-test.true c.number_bytes.ensures c.loop-k.invariant
    c.store.ensures

pub returns : goal.returns
returns c =
    let list = c.args.list in
    let rules = take c.count-count.result list.rules in
    all_put c.args.place.now rules (view list) c.loop-k.k c.count-count.ensures
    (take_all c.loop-k.k rules c.loop-k-test.false ∙ view_count list c.count-count.result c.count-count.ensures) c.if-place-needed.false c.loop-k.invariant
