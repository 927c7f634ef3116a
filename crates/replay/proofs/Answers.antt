-- Any two answers that a contract allows show the same: of `start`, of `step` and of `replay`; and each claim by number holds of the answer that
-- `replay` gives, and of the one that `step` gives to a sound state. Assumes nothing.
use Prim.Native.Nat.{min}
use mathlib.Core.Path.{◌≡◌, sym, ◌∙◌, subst}
use Rattle.running.specs.Running.{view}
use Rattle.running.specs.Claims.{ByNumber}
use Rattle.replay.specs.Stepping.{StepLeft, left_by, Sound}
use Rattle.replay.specs.Answers.{Outcome, shown_by}
use Rattle.replay.specs.Claims.{Replays}
use Rattle.std.specs.Prelude.{Result}
use Rattle.deployment.specs.declared.Why.{Why}
use Rattle.running.specs.declared.Running.{Running}
use Rattle.replay.specs.declared.Stop.{Stop}
use Rattle.replay.specs.declared.Replaying.{Replaying}
use Rattle.replay.specs.declared.Stepped.{Stepped}
use Rattle.replay.proofs.Claims.{replayed_by_number, step_by_number}
use Rattle.replay.proofs.Replaying.start.Reads as start
use Rattle.replay.proofs.Replaying.step.Reads as step
use Rattle.replay.proofs.replay.Reads as replay
use Rattle.replay.proofs.StopWhyFromWhy.from.Reads as from-why

pub one_start : (κ : _) (a : _) (r s : Replaying) (e f : _) → start.Post κ a r e → start.Post κ a s f
    → (view r.list ≡ view s.list) × (r.places.of ≡ s.places.of)
one_start κ a r s e f p q = (p.0 ∙ sym q.0, p.1 ∙ sym q.1)

pub one_step : (κ : _) (a : _) (r s : Stepped) (e f : _) → step.Post κ a r e → step.Post κ a s f → left_by r ≡ left_by s
one_step κ a r s e f p q = p ∙ sym q

pub one_stop : (κ : _) (a : _) (r s : Stop Why) (e f : _) → from-why.Post κ a r e → from-why.Post κ a s f → r ≡ s
one_stop κ a r s e f p q = p ∙ sym q

pub one_replay : (κ : _) (a : _) (r s : Result Running (Stop Why)) (e f : _) → replay.Post κ a r e → replay.Post κ a s f → shown_by r ≡ shown_by s
one_replay κ a r s e f p q = p ∙ sym q

-- by number: where a script leads, where it breaks, and what turns it away
pub replay_by_number : (κ : _) (a : _) (r : Result Running (Stop Why)) (e : _) → replay.Post κ a r e
    → Replays (min a.0 1024) a.1.0.now a.1.1.0.now (shown_by r)
replay_by_number κ a r e p =
    subst (λ (o : Outcome). Replays (min a.0 1024) a.1.0.now a.1.1.0.now o) (sym p)
    (replayed_by_number a.0 a.1.0.now a.1.1.0.now)

-- by number: one command on a sound state
pub step_of_sound : (κ : _) (a : _) (s : Stepped) (e : _) → step.Post κ a s e
    → Sound a.1.0 (view a.0.list) a.0.places.of → ByNumber a.1.0 (view a.0.list) a.1.1.0 (left_by s).shown
step_of_sound κ a s e p sound =
    subst (λ (left : StepLeft). ByNumber a.1.0 (view a.0.list) a.1.1.0 left.shown) (sym p)
    (step_by_number a.1.0 (view a.0.list) a.0.places.of a.1.1.0 sound)
