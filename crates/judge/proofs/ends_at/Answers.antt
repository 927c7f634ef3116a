-- `ends_at` meets its contract: what is left of the two lists, from k on, says what the whole lists say; the first rules of the array, as many
-- as are counted, are the list. Assumes nothing.
use Prim.Native.Nat.{ℕ}
use native.Mathlib.Omega.{arith}
use mathlib.Core.Path.{◌≡◌, refl, sym, ◌∙◌, ap}
use mathlib.Core.List.{List}
use lib.ListN.{length, take}
use Rattle.policy.specs.Lists.{same}
use Rattle.running.specs.Running.{view}
use Rattle.running.proofs.Edits.{view_count, view_fits}
use Rattle.deployment.specs.Values.{numbers_of}
use Rattle.catalogue.proofs.SideBySide.{same_lengths, same_further, same_not, same_ends}
use Rattle.judge.proofs.ends_at.Goals as goal
use Rattle.judge.proofs.ends_at.Goals.{After-count-n, Else-n-listed}

pub returns-then-n-listed : goal.returns-then-n-listed
returns-then-n-listed c =
    let a = c.args in
    sym (same_lengths (view a.state.list) (numbers_of a.policy.now)
    (λ e. c.if-n-listed.true (c.count-n.ensures ∙ e ∙ sym c.listed.ensures)))

pub shared_ref_as_front-r-items : goal.shared_ref_as_front-r-items
shared_ref_as_front-r-items c = omega (arith, c.count-n.ensures, view_fits c.args.state.list, c.well_formed.0.1.1.0.1.1.0.1.0.1)

pub loop-k-init : goal.loop-k-init
loop-k-init c = refl

-- the list
shown : (c : After-count-n) → take c.count-n.result c.args.state.list.rules ≡ view c.args.state.list
shown c = view_count c.args.state.list c.count-n.result c.count-n.ensures

-- it is as long as the policy
long : (c : Else-n-listed) → length (take c.count-n.result c.args.state.list.rules) ≡ length (numbers_of c.args.policy.now)
long c = ap length (shown (goal.at.Else-n-listed c).After-count-n) ∙ sym c.count-n.ensures ∙ c.if-n-listed.false ∙ c.listed.ensures

pub returns-then-r-number_at : goal.returns-then-r-number_at
returns-then-r-number_at c =
    let l = take c.count-n.result c.args.state.list.rules in
    let policy = numbers_of c.args.policy.now in
    sym (ap (λ (m : List ℕ). same m policy) (sym (shown (goal.at.returns-then-r-number_at c).After-count-n))
    ∙ c.loop-k.invariant
    ∙ same_not l policy c.loop-k.k c.loop-k-test.true (omega (arith, c.loop-k-test.true, long (goal.at.returns-then-r-number_at c).Else-n-listed))
    (λ e. c.if-r-number_at.true (e ∙ sym c.number_at.ensures)))

pub loop-k-preserved : goal.loop-k-preserved
loop-k-preserved c =
    let l = take c.count-n.result c.args.state.list.rules in
    let policy = numbers_of c.args.policy.now in
    c.loop-k.invariant
    ∙ same_further l policy c.loop-k.k c.loop-k-test.true (omega (arith, c.loop-k-test.true, long (goal.at.loop-k-preserved c).Else-n-listed))
    (c.if-r-number_at.false ∙ c.number_at.ensures)

pub returns : goal.returns
returns c =
    let l = take c.count-n.result c.args.state.list.rules in
    let policy = numbers_of c.args.policy.now in
    sym (ap (λ (m : List ℕ). same m policy) (sym (shown (goal.at.returns c).After-count-n))
    ∙ c.loop-k.invariant
    ∙ same_ends l policy c.loop-k.k c.loop-k-test.false (omega (arith, c.loop-k-test.false, long (goal.at.returns c).Else-n-listed)))
