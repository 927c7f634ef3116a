-- `seek` meets its contract: so many rules come before the one that is found, or all of them do. Assumes nothing.
use Prim.Native.Nat.{◌+◌, ◌-◌}
use native.Mathlib.Omega.{arith}
use borrow.Author.Rules.{rules}
use mathlib.Core.Path.{◌≡◌, ap}
use lib.Dec.{eqb}
use lib.ListN.{take, drop, length-drop}
use Rattle.std.proofs.Common.{tests}
use Rattle.std.proofs.lemmas.Iterator.{YieldsList-from_slice}
use Rattle.std.proofs.lemmas.Iterator.Search.{position_from_yields_List}
use Rattle.running.specs.Running.{view}
use Rattle.running.proofs.Edits.{view_fits}
use Rattle.first_stage.proofs.Looking.{rest_shown, Found, found_some, found_none}
use Rattle.first_stage.proofs.seek.Goals as goal
use Rattle.first_stage.proofs.seek.Goals.{After-position}

-- what is looked through, and what is found there
shown : (c : After-position) → take (c.count-len.result - c.args.from) (drop c.args.from c.args.list.rules) ≡ drop c.args.from (view c.args.list)
shown c = rest_shown c.args.list c.args.from c.count-len.result c.count-len.ensures (omega (arith, c.count-len.ensures, c.requires))

found : (c : After-position) → c.position.result ≡ Found (λ x. eqb x c.args.r) (drop c.args.from (view c.args.list))
found c =
    rw (← shown c)
    (position_from_yields_List (λ x. eqb x c.args.r) _ _ _ c.position.ensures.ran
    (YieldsList-from_slice (take (c.count-len.result - c.args.from) (drop c.args.from c.args.list.rules)) (cc)) (λ x b q k. search (rules, tests)))

pub offset_bounds-list-from : goal.offset_bounds-list-from
offset_bounds-list-from c = omega (arith, c.requires, view_fits c.args.list, c.well_formed.0.1.1.0.1.0.1)

pub slice_bounds-iter-end : goal.slice_bounds-iter-end
slice_bounds-iter-end c = omega (arith, c.requires, c.count-len.ensures, view_fits c.args.list, c.well_formed.0.1.1.0.1.0.1)

pub returns-in-Some : goal.returns-in-Some
returns-in-Some c =
    ap (λ n. c.args.from + n) (found_some (λ x. eqb x c.args.r) _ _ c.in-Some.before (found (goal.at.returns-in-Some c).After-position) c.in-Some.is)

pub returns-in-None : goal.returns-in-None
returns-in-None c =
    let all = found_none (λ x. eqb x c.args.r) _ _ (found (goal.at.returns-in-None c).After-position) c.in-None.is in
    omega (arith, all, c.count-len.ensures, c.requires, length-drop c.args.from (view c.args.list))
