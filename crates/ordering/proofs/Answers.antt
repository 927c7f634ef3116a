-- Any two answers that a function of the ordering rule allows are equal, by its contract as the checker reads it. Assumes nothing.
use Prim.Native.Nat.{ℕ}
use mathlib.Core.Path.{◌≡◌, sym, ◌∙◌, ap}
use mathlib.Core.Bool.{Bool}
use mathlib.Core.Option.{Option, none, some}
use Rattle.ordering.proofs.is_full.Reads as is-full
use Rattle.ordering.proofs.is_ordered.Reads as is-ordered
use Rattle.ordering.proofs.first_unsupported.Reads as first-unsupported

pub one_full : (κ : _) (a : _) (r s : Bool) (e f : _) → is-full.Post κ a r e → is-full.Post κ a s f → r ≡ s
one_full κ a r s e f p q = p ∙ sym q

pub one_ordered : (κ : _) (a : _) (r s : Bool) (e f : _) → is-ordered.Post κ a r e → is-ordered.Post κ a s f → r ≡ s
one_ordered κ a r s e f p q = p ∙ sym q

-- the place that is there
place : Option ℕ → ℕ
place (some p) = p
place none = 0

pub one_place : (κ : _) (a : _) (r s : ℕ) (e f : _) → first-unsupported.Post κ a r e → first-unsupported.Post κ a s f → r ≡ s
unfolding place
one_place κ a r s e f p q = ap place (sym p ∙ q)
