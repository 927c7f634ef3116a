-- `grown` meets its contract: what is required in each of the two cases is what it goes by. Assumes nothing.
use native.Mathlib.Omega.{arith}
use Rattle.deployment.specs.Values.{numbers_of}
use Rattle.deployment.proofs.Records.{numbers_length}
use Rattle.ordering.specs.Fronts.{stands}
use Rattle.ordering.proofs.Support.{front_fits}
use Rattle.ordering.proofs.grown.Goals as goal

pub overflow_add-from : goal.overflow_add-from
overflow_add-from c =
    let a = c.args in
    omega (
      arith,
      c.requires.0 c.if-comes_next.true,
      front_fits (stands a.places.now a.k) (numbers_of a.policy.now),
      numbers_length a.policy.now,
      c.well_formed,
    )

pub front_part-requires : goal.front_part-requires
front_part-requires c = c.requires.0 c.if-comes_next.true

pub returns : goal.returns
returns c = c.requires.1 c.if-comes_next.false
