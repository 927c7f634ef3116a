-- `moved` leaves what the definition says: the edit, settled from the smaller place on. Assumes nothing.
use Prim.Native.Nat.{ℕ, ◌-◌}
use mathlib.Core.Path.{refl, ◌∙◌, ap}
use Rattle.replay.specs.Stepping.{step_left, step_shown, cleared, changed_from}
use Rattle.replay.proofs.Settled.{settles}
use Rattle.replay.proofs.Replaying.moved.Goals as goal

pub returns : goal.returns
unfolding step_left step_shown cleared changed_from
returns c =
    λ size.
    c.settle.ensures
    ∙ settles c.args.self.places.of
    c.mov.ensures
    refl
    (c.index_of.ensures ∙ ap (λ (i : ℕ). i - 1) c.min.ensures)
