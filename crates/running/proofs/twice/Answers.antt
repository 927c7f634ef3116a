-- `twice` is the test of the definition, turned. The loop's invariant: the rules behind those that are left differ, and `seen` marks exactly them.
-- Assumes nothing.
use Prim.Native.Nat.{◌<◌}
use mathlib.Core.Path.{sym, ap}
use mathlib.Core.Bool.{not}
use mathlib.Core.List.{[], ◌∷◌, ◌++◌}
use lib.ListN.{take}
use Rattle.policy.proofs.Lists.{length_nil}
use Rattle.running.proofs.Names.{Seen, seen_none, seen_all, seen_fits, seen_one, seen_twice}
use Rattle.running.proofs.twice.Goals as goal
use Rattle.running.proofs.twice.Goals.{In-Some}

pub loop-r-init : goal.loop-r-init
loop-r-init c =
    rw (c.into_iter-r-iterator.ensures.into_iter_gives, c.rev-r-items.ensures.source, c.iter.ensures.rest)
    (seen_none (take c.args.len c.args.rules))

-- r is the last of those that are left
before : (c : In-Some) → Seen c.loop-r.seen (c.next.new.self.iter.rest.now ++ (c.in-Some.r.now ∷ [])) (take c.args.len c.args.rules)
before c = rw c.in-Some.ensures.steps at c.loop-r.invariant

fits : (c : In-Some) → c.in-Some.r.now < 1024
fits c = seen_fits _ _ _ _ (before c) c.requires.1

pub bounds-seen-at : goal.bounds-seen-at
bounds-seen-at c = fits (goal.at.bounds-seen-at c).In-Some

pub returns-then-seen-at : goal.returns-then-seen-at
returns-then-seen-at c =
    let p = (goal.at.returns-then-seen-at c).In-Some in
    sym (ap not (seen_twice _ _ _ _ (before p) (fits p) c.if-seen-at.true))

pub bounds-seen-at-in-loop-r : goal.bounds-seen-at-in-loop-r
bounds-seen-at-in-loop-r c = fits (goal.at.bounds-seen-at-in-loop-r c).In-Some

pub loop-r-preserved : goal.loop-r-preserved
loop-r-preserved c =
    let p = (goal.at.loop-r-preserved c).In-Some in
    seen_one _ _ _ _ (before p) (fits p) c.if-seen-at.false

pub returns : goal.returns
returns c =
    let none = length_nil c.loop-r.r-iterator.iter.rest.now c.in-None.ensures.steps.0 in
    sym (ap not (seen_all _ _ (rw none at c.loop-r.invariant)))
