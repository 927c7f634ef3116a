-- `naming` gives what the definition gives: its two tests are the definition's, on the list that is shown and the smaller of `size` and 1,024.
-- Assumes nothing.
use Prim.Native.Nat.{ℕ, min, ◌≤◌}
use native.Mathlib.Omega.{arith}
use mathlib.Core.Path.{◌≡◌, sym, ◌∙◌, ap, ap₂}
use mathlib.Core.Bool.{true, not}
use mathlib.Core.List.{List}
use borrow.Author.Tests.{not-true, not-false}
use lib.Dec.{ltb}
use Rattle.policy.specs.Lists.{all, differ}
use Rattle.running.specs.Running.{view}
use Rattle.running.proofs.Edits.{view_count, view_fits}
use Rattle.running.proofs.Names.{all_wider, names_outside, names_twice, names_once}
use Rattle.running.proofs.Running.naming.Goals as goal
use Rattle.running.proofs.Running.naming.Goals.{After-count-len, After-outside, After-twice, Else-outside}

fits : (c : After-count-len) → c.count-len.result ≤ 1024
fits c =
    omega (arith, c.count-len.ensures, view_fits c.args.self, c.well_formed.0.1.1.0.1.0.1)

pub outside-requires : goal.outside-requires
outside-requires c = fits (goal.at.outside-requires c).After-count-len

-- what the first test says, of the list that is shown
outside_is : (c : After-outside) →
    c.outside.result ≡ not (all (λ r. ltb r (min c.args.size 1024)) (view c.args.self))
outside_is c =
    c.outside.ensures
    ∙ ap₂ (λ (top : ℕ) (l : List ℕ). not (all (λ r. ltb r top) l)) c.min.ensures (view_count c.args.self _ c.count-len.ensures)

inside : (c : Else-outside) → all (λ r. ltb r (min c.args.size 1024)) (view c.args.self) ≡ true
inside c = not-false _ (sym (outside_is (goal.at.Else-outside c).After-outside) ∙ c.if-outside.false)

pub returns-then-outside : goal.returns-then-outside
returns-then-outside c = names_outside _ _ (not-true _ (sym (outside_is (goal.at.returns-then-outside c).After-outside) ∙ c.if-outside.true))

pub twice-requires : goal.twice-requires
twice-requires c =
    (fits (goal.at.twice-requires c).After-count-len, rw (view_count c.args.self _ c.count-len.ensures) (all_wider _ 1024 _ (omega arith) (inside c)))

-- what the second test says
twice_is : (c : After-twice) → c.twice.result ≡ not (differ (view c.args.self))
twice_is c =
    c.twice.ensures ∙ ap (λ (l : List ℕ). not (differ l)) (view_count c.args.self _ c.count-len.ensures)

pub returns-then-twice : goal.returns-then-twice
returns-then-twice c =
    names_twice _ _ (inside (goal.at.returns-then-twice c).Else-outside) (not-true _ (sym (twice_is (goal.at.returns-then-twice c).After-twice) ∙ c.if-twice.true))

pub returns : goal.returns
returns c =
    names_once _ _ (inside (goal.at.returns c).Else-outside) (not-false _ (sym (twice_is (goal.at.returns c).After-twice) ∙ c.if-twice.false))
