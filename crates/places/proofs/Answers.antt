-- "Each public entry promises one answer for each input": any two answers that a contract allows are equal, numbers and side arrays alike.
-- Each follows from the contract as the checker reads it, so a weaker contract breaks it. Assumes nothing.
use Prim.Native.Nat.{ℕ}
use mathlib.Core.Path.{◌≡◌, sym, ◌∙◌, ap}
use mathlib.Core.List.{List}
use Rattle.places.specs.declared.Places.{Places}
use Rattle.places.proofs.Places.none.Reads as none
use Rattle.places.proofs.Places.place.Reads as place
use Rattle.places.proofs.Places.cleared.Reads as cleared
use Rattle.places.proofs.Places.numbered.Reads as numbered
use Rattle.places.proofs.place_of.Reads as place_of

-- equal slots make equal arrays
same_places : (r s : Places) → r.of ≡ s.of → r ≡ s
same_places r s e = ap (λ (of : List ℕ). record { of = of }) e

pub one_none : (κ : _) (a : _) (r s : Places) (e f : _) → none.Post κ a r e → none.Post κ a s f → r ≡ s
one_none κ a r s e f p q = same_places r s (p ∙ sym q)

pub one_place : (κ : _) (a : _) (r s : ℕ) (e f : _) → place.Post κ a r e → place.Post κ a s f → r ≡ s
one_place κ a r s e f p q = p ∙ sym q

pub one_cleared : (κ : _) (a : _) (r s : Places) (e f : _) → cleared.Post κ a r e → cleared.Post κ a s f → r ≡ s
one_cleared κ a r s e f p q = same_places r s (p ∙ sym q)

pub one_numbered : (κ : _) (a : _) (r s : Places) (e f : _) → numbered.Post κ a r e → numbered.Post κ a s f → r ≡ s
one_numbered κ a r s e f p q = same_places r s (p ∙ sym q)

pub one_place_of : (κ : _) (a : _) (r s : ℕ) (e f : _) → place_of.Post κ a r e → place_of.Post κ a s f → r ≡ s
one_place_of κ a r s e f p q = p ∙ sym q
