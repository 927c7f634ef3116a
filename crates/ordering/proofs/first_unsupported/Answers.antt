-- `first_unsupported` meets its contract. Over the places: what is left of the list has the first unsupported place of the whole. At one place:
-- a and b never pass the front parts by the rules before it, so a policy that comes to the place's own rule supports it, and where both are
-- stuck neither does. Assumes nothing.
use Prim.Native.Nat.{suc, ◌≤◌}
use native.Mathlib.Omega.{arith}
use mathlib.Core.Path.{refl, sym, ◌∙◌, ap₂}
use mathlib.Core.Bool.{◌||◌}
use lib.ListN.{get_or}
use Rattle.policy.specs.Judge.{supported, ordered, first_unsupported}
use Rattle.deployment.specs.Values.{numbers_of}
use Rattle.policy.proofs.Tests.{never}
use Rattle.ordering.specs.Fronts.{stands, front, is_at}
use Rattle.ordering.proofs.Support.{front_fits, ahead_inside, ahead_later, ahead_stuck, supported_fronts, supported_next}
use Rattle.ordering.proofs.Search.{failing_later, failing_here, failing_none, none_all}
use Rattle.ordering.proofs.first_unsupported.Goals as goal
use Rattle.ordering.proofs.first_unsupported.Goals.{
  After-advanced-next_b,
  else-next_a-a-via-then-next_a-a+else-next_b-b,
  else-next_a-a-via-else-next_a-a,
  else-places-test,
  then-places-test+then-loop-next_a-test+then-next_a-a+then-next_b-b,
}

pub places-init : goal.places-init
unfolding first_unsupported
places-init c = (omega arith, refl)

pub loop-next_a-init : goal.loop-next_a-init
loop-next_a-init c = (omega arith, omega arith)

-- where the next rules of both policies have been looked at: no index has passed its front part
ahead : (c : After-advanced-next_b)
    → let args = c.args in
    let test = stands args.places.now c.places.k in
    (c.loop-next_a.a ≤ c.advanced-next_a.result) × (c.advanced-next_a.result ≤ front test (numbers_of args.initial.now))
    × (c.loop-next_a.b ≤ c.advanced-next_b.result) × (c.advanced-next_b.result ≤ front test (numbers_of args.target.now))
ahead c =
    let args = c.args in
    let test = stands args.places.now c.places.k in
    let initial = numbers_of args.initial.now in
    let target = numbers_of args.target.now in
    let ea = c.advanced-next_a.ensures in
    let eb = c.advanced-next_b.ensures in (
      rw ea (ahead_later test c.loop-next_a.a initial),
      rw ea (ahead_inside test c.loop-next_a.a initial c.loop-next_a.invariant.0),
      rw eb (ahead_later test c.loop-next_a.b target),
      rw eb (ahead_inside test c.loop-next_a.b target c.loop-next_a.invariant.1),
    )

pub loop-next_a-smaller : goal.loop-next_a-smaller
loop-next_a-smaller c =
    let args = c.args in
    let test = stands args.places.now c.places.k in
    let fits = front_fits test (numbers_of args.initial.now) in
    let fits' = front_fits test (numbers_of args.target.now) in
    let (la, fa, lb, fb) = ahead (goal.at.loop-next_a-smaller c).After-advanced-next_b in
    elim c.else-next_a-a.branch [
      | else-next_a-a-via-then-next_a-a+else-next_b-b w ↦ let moved = w.if-next_b-b.false in omega arith
      | else-next_a-a-via-else-next_a-a w ↦ let moved = w.if-next_a-a.false in omega arith
    ]

pub loop-next_a-preserved : goal.loop-next_a-preserved
loop-next_a-preserved c = let (la, fa, lb, fb) = ahead (goal.at.loop-next_a-preserved c).After-advanced-next_b in (fa, fb)

pub overflow_add-k : goal.overflow_add-k
overflow_add-k c = omega (arith, c.places-test.true)

pub places-smaller : goal.places-smaller
places-smaller c = omega (arith, c.places-test.true)

pub places-preserved : goal.places-preserved
places-preserved c =
    let l = c.args.list.now in
    let initial = numbers_of c.args.initial.now in
    let target = numbers_of c.args.target.now in
    let inside = c.places-test.true in
    let next = sym c.is_next.ensures ∙ c.loop-next_a-test.false in (
      omega arith,
      c.places.invariant.1
          ∙ failing_later (supported initial target l) l c.places.k inside
          (supported_next initial target c.args.places.now l c.requires.0 c.places.k inside c.loop-next_a.a c.loop-next_a.b c.loop-next_a.invariant.0 c.loop-next_a.invariant.1 next),
    )

pub overflow_add-result : goal.overflow_add-result
overflow_add-result c = omega (arith, c.places.invariant.0)

pub returns : goal.returns
unfolding ordered first_unsupported
returns c =
    let l = c.args.list.now in
    let k = c.places.k in
    let initial = numbers_of c.args.initial.now in
    let target = numbers_of c.args.target.now in
    let test = stands c.args.places.now k in
    elim c.places-test.branch [
      | else-places-test w ↦
          never (none_all (supported initial target l) 1 l (c.places.invariant.1 ∙ failing_none (supported initial target l) (suc k) l k w.places-test.false)) c.requires.1
      | then-places-test+then-loop-next_a-test+then-next_a-a+then-next_b-b w ↦
          let inside = w.places-test.true in
          let a = ahead_stuck test w.loop-next_a.a initial w.loop-next_a.invariant.0 (sym w.advanced-next_a.ensures ∙ w.if-next_a-a.true) in
          let b = ahead_stuck test w.loop-next_a.b target w.loop-next_a.invariant.1 (sym w.advanced-next_b.ensures ∙ w.if-next_b-b.true) in
          c.places.invariant.1
          ∙ failing_here (supported initial target l) l k inside
          (sym (supported_fronts initial target c.args.places.now l c.requires.0 k inside)
          ∙ ap₂ (λ m n. is_at (get_or l k 0) m initial || is_at (get_or l k 0) n target) (sym a) (sym b)
          ∙ sym w.is_next.ensures
          ∙ w.loop-next_a-test.true)
    ]
