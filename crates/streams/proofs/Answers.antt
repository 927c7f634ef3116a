-- `piece_of` and `next_of` themselves, by their contracts as the checker reads them: one answer, and they tell a read that fails from the end of
-- the input. Assumes nothing.
use Prim.Native.Nat.{ℕ, ◌<◌}
use mathlib.Core.Path.{◌≡◌, sym, ◌∙◌, ap}
use mathlib.Core.Logic.{◌↔◌}
use mathlib.Core.List.{List}
use lib.ListN.{length}
use borrow.Fn.World.{ArgsD}
use Rattle.std.proofs.Common.{Result, Ok, Err, Break}
use Rattle.std.specs.declared.ops.ControlFlow.{ControlFlow}
use Rattle.streams.specs.declared.Unreadable.{Unreadable}
use Rattle.streams.specs.Reading.{next_of as next}
use Rattle.streams.proofs.Claims.{failed_as_read, ended_at_zero}
use Rattle.streams.specs.contracts.piece_of.{signature}
use Rattle.streams.proofs.piece_of.Reads as piece_of
use Rattle.streams.proofs.next_of.Reads as next_of

pub one_piece : (κ : _) (a : _) (r s : Result ℕ Unreadable) (e f : _) → piece_of.Post κ a r e → piece_of.Post κ a s f → r ≡ s
one_piece κ a r s e f p q = p ∙ sym q

-- the answer of the read that a call is given, and the part that was lent to it
abbrev answer : (κ : _) → ArgsD signature κ → Result ℕ Unreadable
answer κ a = a.0

abbrev part : (κ : _) → ArgsD signature κ → List ℕ
part κ a = a.1.0.now

pub failed_told : (κ : _) (a : _) (r : Result ℕ Unreadable) (e : _) → piece_of.Post κ a r e → (r ≡ Err record {}) ↔ (answer κ a ≡ Err record {})
failed_told κ a r e p =
    let claim = failed_as_read (answer κ a) (length (part κ a)) in (λ is. claim.0 (sym p ∙ is), λ failed. p ∙ claim.1 failed)

pub end_told : (κ : _) (a : _) (r : Result ℕ Unreadable) (e : _) (done : ℕ) → piece_of.Post κ a r e → 0 < length (part κ a) → (next r done ≡ Break (Ok done)) ↔ (answer κ a ≡ Ok 0)
end_told κ a r e done p some =
    let claim = ended_at_zero (answer κ a) (length (part κ a)) done some in
    let same : next r done ≡ _ = ap (λ piece. next piece done) p in
    (λ is. claim.0 (sym same ∙ is), λ zero. same ∙ claim.1 zero)

pub one_next : (κ : _) (a : _) (r s : ControlFlow (Result ℕ Unreadable) ℕ) (e f : _) → next_of.Post κ a r e → next_of.Post κ a s f → r ≡ s
one_next κ a r s e f p q = p ∙ sym q
