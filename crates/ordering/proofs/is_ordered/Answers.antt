-- `is_ordered` meets its contract: a and b are the front parts by the first k rules, and the rules from index k on say what all say.
-- Assumes nothing.
use mathlib.Core.Path.{◌≡◌, refl, sym, ◌∙◌, ap₂}
use mathlib.Core.Bool.{Bool, true, ◌||◌}
use lib.ListN.{get_or}
use Rattle.policy.specs.Judge.{supported, ordered}
use Rattle.policy.proofs.Tests.{or_left, or_right}
use Rattle.deployment.specs.Values.{numbers_of}
use Rattle.ordering.specs.Fronts.{is_at}
use Rattle.ordering.proofs.Support.{front_start, supported_fronts}
use Rattle.ordering.proofs.Growth.{front_after}
use Rattle.ordering.proofs.Search.{all_one, all_not, all_none}
use Rattle.ordering.proofs.is_ordered.Goals as goal
use Rattle.ordering.proofs.is_ordered.Goals.{
  After-is_at-by_target,
  else-not-by_initial-via-then-not-by_initial+else-not-by_target,
  else-not-by_initial-via-else-not-by_initial,
}

pub loop-k-init : goal.loop-k-init
unfolding ordered
loop-k-init c =
    let a = c.args in
    (front_start a.places.now (numbers_of a.initial.now), front_start a.places.now (numbers_of a.target.now), refl)

-- what the two tests at a place say
tested : (c : After-is_at-by_target)
    → let a = c.args in
    (c.is_at-by_initial.result || c.is_at-by_target.result) ≡ supported (numbers_of a.initial.now) (numbers_of a.target.now) a.list.now (get_or a.list.now c.loop-k.k 0)
tested c =
    let l = c.args.list.now in
    let initial = numbers_of c.args.initial.now in
    let target = numbers_of c.args.target.now in
    ap₂ (λ (x y : Bool). x || y) c.is_at-by_initial.ensures c.is_at-by_target.ensures
    ∙ ap₂ (λ m n. is_at (get_or l c.loop-k.k 0) m initial || is_at (get_or l c.loop-k.k 0) n target) c.loop-k.invariant.0 c.loop-k.invariant.1
    ∙ supported_fronts initial target c.args.places.now l c.requires c.loop-k.k c.loop-k-test.true

pub returns-then-not-by_target : goal.returns-then-not-by_target
returns-then-not-by_target c =
    let a = c.args in
    let test = supported (numbers_of a.initial.now) (numbers_of a.target.now) a.list.now in
    let neither = ap₂ (λ (x y : Bool). x || y) c.if-not-by_initial.true c.if-not-by_target.true in
    sym (c.loop-k.invariant.2
    ∙ all_not test a.list.now c.loop-k.k c.loop-k-test.true (sym (tested (goal.at.returns-then-not-by_target c).After-is_at-by_target) ∙ neither))

pub grown-a-requires : goal.grown-a-requires
grown-a-requires c =
    front_after c.args.places.now c.args.list.now c.requires.listed c.loop-k.k c.loop-k-test.true
    (numbers_of c.args.initial.now) c.requires.first c.loop-k.a c.is_at-by_initial.result c.loop-k.invariant.0 c.is_at-by_initial.ensures

pub grown-b-requires : goal.grown-b-requires
grown-b-requires c =
    front_after c.args.places.now c.args.list.now c.requires.listed c.loop-k.k c.loop-k-test.true
    (numbers_of c.args.target.now) c.requires.last c.loop-k.b c.is_at-by_target.result c.loop-k.invariant.1 c.is_at-by_target.ensures

pub loop-k-preserved : goal.loop-k-preserved
loop-k-preserved c =
    let a = c.args in
    let test = supported (numbers_of a.initial.now) (numbers_of a.target.now) a.list.now in
    let one : (c.is_at-by_initial.result || c.is_at-by_target.result) ≡ true =
    elim c.else-not-by_initial.branch [
      | else-not-by_initial-via-then-not-by_initial+else-not-by_target w ↦ or_right c.is_at-by_initial.result w.if-not-by_target.false
      | else-not-by_initial-via-else-not-by_initial w ↦ or_left c.is_at-by_target.result w.if-not-by_initial.false
    ] in (
      c.grown-a.ensures,
      c.grown-b.ensures,
      c.loop-k.invariant.2 ∙ all_one test a.list.now c.loop-k.k c.loop-k-test.true (sym (tested (goal.at.loop-k-preserved c).After-is_at-by_target) ∙ one),
    )

pub returns : goal.returns
returns c =
    let a = c.args in
    let test = supported (numbers_of a.initial.now) (numbers_of a.target.now) a.list.now in
    sym (c.loop-k.invariant.2 ∙ all_none test a.list.now c.loop-k.k c.loop-k-test.false)
