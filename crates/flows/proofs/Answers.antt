-- Any two answers that the contract of `decide_into` allows are equal, with every byte of the place. Assumes nothing.
use Prim.Native.Nat.{ℕ}
use mathlib.Core.Path.{◌≡◌}
use Rattle.std.specs.Prelude.{Result}
use Rattle.deployment.specs.declared.Refusal.{Refusal}
use Rattle.deployment.proofs.Lent.{same_left}
use Rattle.flows.proofs.decide_into.Reads as decide-into

pub one_answer_to_flows : (κ : _) (a : _) (r s : Result ℕ Refusal) (e f : _) → decide-into.Post κ a r e → decide-into.Post κ a s f
    → (r ≡ s) × (e.1.1.1.1.1.0.now ≡ f.1.1.1.1.1.0.now)
one_answer_to_flows κ a r s e f p q = same_left p q
