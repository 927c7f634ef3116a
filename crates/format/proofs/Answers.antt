-- Any two answers that a contract allows are equal. Assumes nothing.
use Prim.Native.Nat.{ℕ}
use mathlib.Core.Path.{◌≡◌, sym, ◌∙◌}
use Rattle.running.specs.Running.{view}
use Rattle.running.specs.declared.Running.{Running}
use Rattle.format.proofs.two.Reads as two
use Rattle.format.proofs.number_of.Reads as number_of
use Rattle.format.proofs.two_at.Reads as two_at
use Rattle.format.proofs.four_at.Reads as four-at
use Rattle.format.proofs.listed.Reads as listed
use Rattle.format.proofs.number_at.Reads as number_at
use Rattle.format.proofs.list_of.Reads as list_of
use Rattle.format.proofs.record_at.Reads as record-at
use Rattle.format.proofs.store.Reads as store

pub one_two : (κ : _) (a : _) (r s : ℕ) (e f : _) → two.Post κ a r e → two.Post κ a s f → r ≡ s
one_two κ a r s e f p q = p ∙ sym q

pub one_number : (κ : _) (a : _) (r s : ℕ) (e f : _) → number_of.Post κ a r e → number_of.Post κ a s f → r ≡ s
one_number κ a r s e f p q = p ∙ sym q

pub one_two_at : (κ : _) (a : _) (r s : ℕ) (e f : _) → two_at.Post κ a r e → two_at.Post κ a s f → r ≡ s
one_two_at κ a r s e f p q = p ∙ sym q

pub one_four_at : (κ : _) (a : _) (r s : ℕ) (e f : _) → four-at.Post κ a r e → four-at.Post κ a s f → r ≡ s
one_four_at κ a r s e f p q = p ∙ sym q

pub one_listed : (κ : _) (a : _) (r s : ℕ) (e f : _) → listed.Post κ a r e → listed.Post κ a s f → r ≡ s
one_listed κ a r s e f p q = p ∙ sym q

pub one_number_at : (κ : _) (a : _) (r s : ℕ) (e f : _) → number_at.Post κ a r e → number_at.Post κ a s f → r ≡ s
one_number_at κ a r s e f p q = p ∙ sym q

-- .. of a list: the slots behind its length aside
pub one_list : (κ : _) (a : _) (r s : Running) (e f : _) → list_of.Post κ a r e → list_of.Post κ a s f → view r ≡ view s
one_list κ a r s e f p q = p ∙ sym q

pub one_record_at : (κ : _) (a : _) (r s : _) (e f : _) → record-at.Post κ a r e → record-at.Post κ a s f → r.now ≡ s.now
one_record_at κ a r s e f p q = p ∙ sym q

pub one_store : (κ : _) (a : _) (r s : Unit) (e f : _) → store.Post κ a r e → store.Post κ a s f → e.0.now ≡ f.0.now
one_store κ a r s e f p q = p ∙ sym q
