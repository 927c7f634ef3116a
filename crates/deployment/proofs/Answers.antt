-- Any two answers that a contract allows are equal. Assumes nothing.
use Prim.Native.Nat.{ℕ}
use mathlib.Core.Path.{◌≡◌, sym, ◌∙◌}
use Rattle.deployment.specs.declared.Refusal.{Refusal}
use Rattle.deployment.proofs.U8FromWhy.from.Reads as from-why
use Rattle.deployment.proofs.RefusalFromWhy.from.Reads as at-zero

pub one_why_number : (κ : _) (a : _) (r s : ℕ) (e f : _) → from-why.Post κ a r e → from-why.Post κ a s f → r ≡ s
one_why_number κ a r s e f p q = p ∙ sym q

pub one_refusal_at_zero : (κ : _) (a : _) (r s : Refusal) (e f : _) → at-zero.Post κ a r e → at-zero.Post κ a s f → r ≡ s
one_refusal_at_zero κ a r s e f p q = p ∙ sym q
