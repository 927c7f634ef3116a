-- Bytes stored one piece behind the other: a run of stores behind a run of stores is one run of both, so what is put piece by piece is
-- what all pieces joined fill; and a store where the place has ended changes nothing. Assumes nothing.
use Prim.Native.Nat.{ℕ, zero, suc, ◌+◌, ◌≤◌, ◌<◌}
use native.Mathlib.Nat.{add-zero, add-suc, suc-add}
use native.Mathlib.Numerals.{add-one}
use native.Mathlib.Omega.{arith}
use mathlib.Core.Path.{◌≡◌, refl, sym, ◌∙◌, ap}
use mathlib.Core.Logic.{◌⊎◌, inl, inr}
use mathlib.Core.List.{List, [], ◌∷◌, ◌++◌}
use lib.ListN.{length, take, drop, set, get_or, length-append, take-append-drop}
use lib.Seq.{sets, sets-eq, length-sets, take-suc, take-length, length-take-le}
use Rattle.deployment.specs.FieldValues.{filled, Stored}

pub sets_sets : (l : List ℕ) (i : ℕ) (u v : List ℕ) → sets (sets l i u) (i + length u) v ≡ sets l i (u ++ v)
sets_sets l i [] v = rw add-zero
sets_sets l i (b ∷ u) v = rw (add-suc, ← suc-add) (sets_sets (set l i b) (suc i) u v)

-- nothing is stored behind the end
set_behind : (l : List ℕ) (i b : ℕ) → length l ≤ i → set l i b ≡ l
set_behind [] i b h = refl
set_behind (x ∷ l) zero b h = absurd (omega arith)
set_behind (x ∷ l) (suc i) b h = ap (λ (m : List ℕ). x ∷ m) (set_behind l i b (omega arith))

pub sets_behind : (l : List ℕ) (i : ℕ) (bytes : List ℕ) → length l ≤ i → sets l i bytes ≡ l
sets_behind l i [] h = refl
sets_behind l i (b ∷ bytes) h =
    ap (λ (m : List ℕ). sets m (suc i) bytes) (set_behind l i b h) ∙ sets_behind l (suc i) bytes (omega arith)

-- Pieces one behind the other.
module _ {old written place : List ℕ} {from at : ℕ} (so_far : Stored old from written place at) where
  -- the place keeps its length
  pub stored_long : length place ≡ length old
  stored_long = ap length so_far.place ∙ length-sets old from written

  pub stored_more : {piece next : List ℕ} {end : ℕ} → Stored place at piece next end → Stored old from (written ++ piece) next end
  stored_more {piece} put =
      record {
        place = put.place ∙ rw (so_far.place, so_far.end) (sets_sets old from written piece);
        end = omega (arith, put.end, so_far.end, length-append written piece);
      }

module _ {old written place : List ℕ} {at : ℕ} (so_far : Stored old 0 written place at) where
  -- there is room behind it
  pub stored_room : (size : ℕ) → length written + size ≤ length old → at + size ≤ length place
  stored_room size room = omega (arith, so_far.end, stored_long so_far)

  -- in the end it fills the first bytes
  pub stored_fills : length written ≤ length old → place ≡ filled old written
  unfolding filled
  stored_fills room =
      let from : 0 + length written ≡ length written = omega arith in
      so_far.place ∙ sets-eq written old 0 (omega arith) ∙ rw from

-- A copy, byte by byte.
pub copied_more : (place : List ℕ) (at : ℕ) (value : List ℕ) (k : ℕ) → k < length value
    → set (sets place at (take k value)) (at + k) (get_or value k 0) ≡ sets place at (take (k + 1) value)
copied_more place at value k h =
    let long : length (take k value) ≡ k = length-take-le k value (omega arith) in
    rw (add-one, take-suc value k 0) (rw long at (sets_sets place at (take k value) (get_or value k 0 ∷ [])))

-- the value has come to its end, or the place
pub copied_all : (place : List ℕ) (at : ℕ) (value : List ℕ) (k : ℕ) → k ≤ length value → length value ≤ k ⊎ length place ≤ at + k
    → sets place at (take k value) ≡ sets place at value
copied_all place at value k h (inl g) =
    let all : k ≡ length value = omega arith in
    rw (all, take-length)
copied_all place at value k h (inr g) =
    let long : length (take k value) ≡ k = length-take-le k value h in
    let stored = sets place at (take k value) in
    sym (sets_behind stored (at + length (take k value)) (drop k value) (omega (arith, long, length-sets place at (take k value))))
    ∙ sets_sets place at (take k value) (drop k value)
    ∙ ap (sets place at) (take-append-drop k value)
