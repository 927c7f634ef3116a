-- `place_deleted` leaves what the definition says: the edit, with the rule at the place cleared, settled from there on. Assumes nothing.
use Prim.Native.Nat.{ℕ}
use lib.ListN.{set}
use mathlib.Core.Path.{◌∙◌, ap}
use Rattle.replay.specs.Stepping.{step_left, step_shown, cleared, changed_from}
use Rattle.replay.proofs.Settled.{settles}
use Rattle.replay.proofs.Replaying.place_deleted.Goals as goal

pub returns : goal.returns
unfolding step_left step_shown cleared changed_from
returns c =
    λ size.
    let self = c.args.self in
    c.settle.ensures
    ∙ settles self.places.of
    c.del_place.ensures
    (c.cleared.ensures ∙ ap (λ (r : ℕ). set self.places.of r 0) c.rule_at-r.ensures)
    c.index_of.ensures
