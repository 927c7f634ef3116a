-- Any two answers that the contract of `replay_into` allows are equal, with every byte of the place. Assumes nothing.
use mathlib.Core.Path.{◌≡◌}
use Rattle.deployment.proofs.Lent.{same_left}
use Rattle.last_list.specs.Last.{Ran}
use Rattle.last_list.proofs.replay_into.Reads as replay-into

pub one_last_list : (κ : _) (a : _) (r s : Ran) (e f : _) → replay-into.Post κ a r e → replay-into.Post κ a s f
    → (r ≡ s) × (e.1.1.1.0.now ≡ f.1.1.1.0.now)
one_last_list κ a r s e f p q = same_left p q
