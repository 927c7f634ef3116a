-- `put_rules` meets its contract. The loop's invariant: the fields of the first k rules are stored from the start on, thirty bytes each.
-- Assumes nothing.
use native.Mathlib.Omega.{arith}
use mathlib.Core.Path.{◌≡◌}
use Rattle.deployment.proofs.Storing.{stored_long}
use Rattle.iptables_reader.proofs.Filing.{fields_none, fields_further}
use Rattle.iptables_reader.proofs.file.put_rules.Goals as goal

pub loop-k-init : goal.loop-k-init
loop-k-init c = let a = c.args in fields_none a.listing.now a.starts.now a.place.now

pub loop-k-preserved : goal.loop-k-preserved
loop-k-preserved c =
    let inside = c.loop-k-test.true in
    let a = c.args in
    fields_further a.listing.now a.starts.now c.loop-k.k (omega (arith, inside, c.requires.0)) c.loop-k.invariant
    c.store.ensures c.record_at.ensures c.store-in-loop-k.ensures

pub returns : goal.returns
returns c =
    let all : c.args.count ≡ c.loop-k.k = omega arith in
    rw all c.loop-k.invariant.place

pub shape_of-place : goal.shape_of-place
shape_of-place c = stored_long c.loop-k.invariant
