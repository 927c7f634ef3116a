-- Any two answers that a contract allows are equal. Assumes nothing.
use Prim.Native.Nat.{ℕ}
use mathlib.Core.Path.{◌≡◌, sym, ◌∙◌}
use Rattle.policy.proofs.U8FromFault.from.Reads as from-fault
use Rattle.policy.proofs.U8FromAction.from.Reads as from-action

pub one_fault_number : (κ : _) (a : _) (r s : ℕ) (e f : _) → from-fault.Post κ a r e → from-fault.Post κ a s f → r ≡ s
one_fault_number κ a r s e f p q = p ∙ sym q

pub one_action_number : (κ : _) (a : _) (r s : ℕ) (e f : _) → from-action.Post κ a r e → from-action.Post κ a s f → r ≡ s
one_action_number κ a r s e f p q = p ∙ sym q
