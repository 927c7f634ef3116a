-- Any two answers that a contract allows are equal. Assumes nothing.
use Prim.Native.Nat.{ℕ}
use mathlib.Core.Path.{◌≡◌, sym, ◌∙◌}
use Rattle.std.specs.Prelude.{Option}
use Rattle.iptables_words.specs.declared.Bounds.{Bounds}
use Rattle.iptables_words.proofs.cut.Reads as cut
use Rattle.iptables_words.proofs.meant.Reads as meant
use Rattle.iptables_words.proofs.full.Reads as full

pub one_cut : (κ : _) (a : _) (r s : ℕ) (e f : _) → cut.Post κ a r e → cut.Post κ a s f → r ≡ s
one_cut κ a r s e f p q = p ∙ sym q

pub one_meaning : (κ : _) (a : _) (r s : Option Bounds) (e f : _) → meant.Post κ a r e → meant.Post κ a s f → r ≡ s
one_meaning κ a r s e f p q = p ∙ sym q

pub one_full : (κ : _) (a : _) (r s : Bounds) (e f : _) → full.Post κ a r e → full.Post κ a s f → r ≡ s
one_full κ a r s e f p q = p ∙ sym q
