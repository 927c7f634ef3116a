-- `rule_at` reads the slot of the place, where the list has it. Assumes nothing.
use Prim.Native.Nat.{ℕ, ◌-◌, ◌<◌}
use native.Mathlib.Omega.{arith}
use mathlib.Core.Path.{◌≡◌, sym, ◌∙◌, ap}
use lib.ListN.{length, get_or, get_or-eq_default}
use Rattle.policy.specs.Command.{rule_at}
use Rattle.running.specs.Running.{view}
use Rattle.running.specs.declared.Running.{Running}
use Rattle.running.proofs.Edits.{view_fits}
use Rattle.replay.proofs.Settled.{view_at}
use Rattle.replay.proofs.rule_at.Goals as goal

-- the list has no more rules than there are slots
shown : (list : Running) (n at : ℕ) → length list.rules ≡ 1024 → n ≡ length (view list) → at < n → at < 1024
shown list n at slots counted inside = omega (arith, view_fits list)

pub offset_bounds-list-at : goal.offset_bounds-list-at
offset_bounds-list-at c =
    let inside = shown c.args.list _ _ c.well_formed.0.1.1.0.1.0.1 c.count.ensures c.if-at-count.true in
    omega (arith, inside)

pub bounds-list-at : goal.bounds-list-at
bounds-list-at c = shown c.args.list _ _ c.well_formed.0.1.1.0.1.0.1 c.count.ensures c.if-at-count.true

pub returns-then-at-count : goal.returns-then-at-count
unfolding rule_at
returns-then-at-count c =
    let at = c.index_of-at in
    let a = c.args in
    let l = view a.list in
    sym (ap (λ (k : ℕ). get_or l k 0) (sym at.ensures) ∙ view_at a.list at.result (omega (arith, c.if-at-count.true, c.count.ensures)))

pub returns-else-at-count : goal.returns-else-at-count
unfolding rule_at
returns-else-at-count c =
    let at = c.index_of-at in
    let a = c.args in
    sym (get_or-eq_default (view a.list) 0 {n = a.i - 1} (omega (arith, at.ensures, c.if-at-count.false, c.count.ensures)))
