-- `rule_deleted` leaves what the definition says: the edit at the place that the array gives, settled from there on. Assumes nothing.
use Prim.Native.Nat.{ℕ, ◌-◌}
use mathlib.Core.Path.{◌∙◌, ap}
use Rattle.running.specs.Running.{view, rule_deleted}
use Rattle.replay.specs.Stepping.{step_left, step_shown, cleared, changed_from}
use Rattle.replay.proofs.Settled.{settles}
use Rattle.replay.proofs.Replaying.rule_deleted.Goals as goal

pub returns : goal.returns
unfolding step_left step_shown cleared changed_from
returns c =
    let a = c.args in
    c.settle.ensures
    ∙ settles a.self.places.of
    (c.del_rule.ensures ∙ ap (rule_deleted a.size (view a.self.list) a.r) c.place-place.ensures)
    c.cleared.ensures
    (c.index_of-from.ensures ∙ ap (λ (place : ℕ). place - 1) c.place-place.ensures)
