-- `front_part` meets its contract: the index never passes the longest front part, and stops where that ends. Assumes nothing.
use Prim.Native.Nat.{suc, ◌≤◌}
use native.Mathlib.Numerals.{add-one}
use native.Mathlib.Omega.{arith}
use mathlib.Core.Path.{sym, ◌∙◌}
use Rattle.deployment.specs.Values.{numbers_of}
use Rattle.deployment.proofs.Records.{numbers_length}
use Rattle.ordering.specs.Fronts.{stands, front}
use Rattle.ordering.proofs.Support.{front_fits, front_one, front_ends}
use Rattle.ordering.proofs.front_part.Goals as goal
use Rattle.ordering.proofs.front_part.Goals.{In-loop-i}

-- one rule more passes
passes : (c : In-loop-i)
    → let a = c.args in suc c.loop-i.i ≤ front (stands a.places.now a.k) (numbers_of a.policy.now)
passes c =
    let a = c.args in
    front_one (stands a.places.now a.k) c.loop-i.i (numbers_of a.policy.now) c.loop-i.invariant
    (sym c.stands_at.ensures ∙ c.loop-i-test.true)

pub overflow_add-i : goal.overflow_add-i
overflow_add-i c =
    let a = c.args in
    let p = numbers_of a.policy.now in
    omega (arith, passes c, front_fits (stands a.places.now a.k) p, numbers_length a.policy.now, c.well_formed)

pub loop-i-smaller : goal.loop-i-smaller
loop-i-smaller c =
    let a = c.args in
    omega (arith, passes c, front_fits (stands a.places.now a.k) (numbers_of a.policy.now))

pub loop-i-preserved : goal.loop-i-preserved
loop-i-preserved c = rw add-one (passes c)

pub returns : goal.returns
returns c =
    let a = c.args in
    front_ends (stands a.places.now a.k) c.loop-i.i (numbers_of a.policy.now) c.loop-i.invariant
    (sym c.stands_at.ensures ∙ c.loop-i-test.false)
