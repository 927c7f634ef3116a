-- Any two answers that a contract allows are equal: the number and every word of the answer that was lent. Each follows from the contract as the
-- checker reads it, so a weaker contract breaks it. Assumes nothing.
use mathlib.Core.Path.{◌≡◌, sym, ◌∙◌}
use Prim.Native.Nat.{ℕ}
use mathlib.Core.List.{List}
use Rattle.told.specs.Answers.{Told, Tells}
use Rattle.told.proofs.tell_read.Reads as tell-read
use Rattle.told.proofs.tell_checked.Reads as tell-checked
use Rattle.told.proofs.tell_written.Reads as tell-written
use Rattle.told.proofs.tell_decided.Reads as tell-decided
use Rattle.told.proofs.tell_ran.Reads as tell-ran
use Rattle.told.proofs.tell_planned.Reads as tell-planned
use Rattle.told.proofs.tell_judged.Reads as tell-judged

pub one_told : {t : Told} {r s : ℕ} {before after other : List ℕ} → Tells t r before after → Tells t s before other → (r ≡ s) × (after ≡ other)
one_told p q = (p.number ∙ sym q.number, p.answer ∙ sym q.answer)

pub one_tell_read : (κ : _) (a : _) (r s : ℕ) (e f : _) → tell-read.Post κ a r e → tell-read.Post κ a s f → (r ≡ s) × (e.1.0.now ≡ f.1.0.now)
one_tell_read κ a r s e f p q = one_told p q

pub one_tell_checked : (κ : _) (a : _) (r s : ℕ) (e f : _) → tell-checked.Post κ a r e → tell-checked.Post κ a s f → (r ≡ s) × (e.1.0.now ≡ f.1.0.now)
one_tell_checked κ a r s e f p q = one_told p q

pub one_tell_written : (κ : _) (a : _) (r s : ℕ) (e f : _) → tell-written.Post κ a r e → tell-written.Post κ a s f → (r ≡ s) × (e.1.0.now ≡ f.1.0.now)
one_tell_written κ a r s e f p q = one_told p q

pub one_tell_decided : (κ : _) (a : _) (r s : ℕ) (e f : _) → tell-decided.Post κ a r e → tell-decided.Post κ a s f → (r ≡ s) × (e.1.0.now ≡ f.1.0.now)
one_tell_decided κ a r s e f p q = one_told p q

pub one_tell_ran : (κ : _) (a : _) (r s : ℕ) (e f : _) → tell-ran.Post κ a r e → tell-ran.Post κ a s f → (r ≡ s) × (e.1.0.now ≡ f.1.0.now)
one_tell_ran κ a r s e f p q = one_told p q

pub one_tell_planned : (κ : _) (a : _) (r s : ℕ) (e f : _) → tell-planned.Post κ a r e → tell-planned.Post κ a s f → (r ≡ s) × (e.1.0.now ≡ f.1.0.now)
one_tell_planned κ a r s e f p q = one_told p q

pub one_tell_judged : (κ : _) (a : _) (r s : ℕ) (e f : _) → tell-judged.Post κ a r e → tell-judged.Post κ a s f → (r ≡ s) × (e.1.0.now ≡ f.1.0.now)
one_tell_judged κ a r s e f p q = one_told p q
