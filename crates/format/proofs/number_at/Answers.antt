-- `number_at` meets its contract: the k-th number of a list value is that of the two bytes from 2k on, and past the last it is 0.
-- Assumes nothing.
use Prim.Native.Nat.{◌*◌, ◌/◌, ◌<◌}
use native.Mathlib.Omega.{arith}
use mathlib.Core.Path.{◌≡◌, sym, ◌∙◌, ap}
use lib.ListN.{length}
use Rattle.deployment.specs.Bytes.{number}
use Rattle.deployment.proofs.Records.{numbers_length, number_at_lem, number_past, part_between}
use Rattle.format.proofs.Numbers.{two_fit}
use Rattle.format.proofs.number_at.Goals as goal
use Rattle.format.proofs.number_at.Goals.{After-listed, Else-listed-k}

-- how many numbers there are
counted : (c : After-listed) → c.listed.result ≡ length c.args.value.now / 2
counted c = c.listed.ensures ∙ numbers_length c.args.value.now

-- past the test: the k-th number is there
inside : (c : Else-listed-k) → let a = c.args in a.k < length a.value.now / 2
inside c = omega (arith, counted (goal.at.Else-listed-k c).After-listed)

pub returns : goal.returns
returns c =
    let a = c.args in
    c.number_of.ensures
    ∙ ap number (part_between (2 * a.k) 2 a.value.now)
    ∙ sym (number_at_lem a.value.now a.k (inside (goal.at.returns c).Else-listed-k))

pub returns-then-listed-k : goal.returns-then-listed-k
returns-then-listed-k c =
    let a = c.args in
    sym (number_past a.value.now a.k (omega (arith, counted (goal.at.returns-then-listed-k c).After-listed)))

pub overflow_mul-at : goal.overflow_mul-at
overflow_mul-at c = omega (arith, inside c)

pub overflow_add-at : goal.overflow_add-at
overflow_add-at c = omega (arith, inside (goal.at.overflow_add-at c).Else-listed-k)

pub slice_bounds-number_of-end : goal.slice_bounds-number_of-end
slice_bounds-number_of-end c = omega (arith, inside (goal.at.slice_bounds-number_of-end c).Else-listed-k)

pub overflow_cast-result : goal.overflow_cast-result
overflow_cast-result c =
    let a = c.args in
    let is = c.number_of.ensures ∙ ap number (part_between (2 * a.k) 2 a.value.now) in
    omega (arith, is, two_fit (2 * a.k) a.value.now (λ i. omega (arith, c.type_inv.value i)) (omega (arith, inside (goal.at.overflow_cast-result c).Else-listed-k)))
