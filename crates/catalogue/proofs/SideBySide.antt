-- Two lists gone through side by side, each from its first element on: whether they are the same, and whether one occurs in the other.
-- Each law says what one turn needs of the rests. Assumes nothing.
use Prim.Native.Nat.{ℕ, ◌+◌, ◌≤◌, ◌<◌}
use native.Mathlib.Numerals.{add-one}
use mathlib.Core.Path.{◌≡◌, refl, sym, ap}
use mathlib.Core.Bool.{true, false, ◌&&◌}
use mathlib.Core.List.{List, [], ◌∷◌}
use lib.ListN.{length, drop, get_or, drop_of_length-le}
use lib.Seq.{drop-cons}
use lib.Dec.{eqb}
use lib.Pointwise.{pointwise}
use borrow.Author.Tests.{eq-eqb, ne_eqb}
use Rattle.policy.specs.Lists.{occurs, same}
use Rattle.policy.proofs.Tests.{falsely}
use Rattle.policy.proofs.Lists.{same_eq}

-- The same list: what `==` says of two slices.
pub same_pairs : (a b : List ℕ) → pointwise eqb a b ≡ same a b
unfolding same
same_pairs [] [] = refl
same_pairs [] (y ∷ b) = refl
same_pairs (x ∷ a) [] = refl
same_pairs (x ∷ a) (y ∷ b) = ap (λ t. eqb x y && t) (same_pairs a b)

pub same_lengths : (a b : List ℕ) → ¬ (length a ≡ length b) → same a b ≡ false
same_lengths a b h = falsely (λ t. h (ap length (same_eq a b t)))

module _ (a b : List ℕ) (k : ℕ) (in-a : k < length a) (in_b : k < length b) where
  pub same_further : get_or a k 0 ≡ get_or b k 0 → same (drop k a) (drop k b) ≡ same (drop (k + 1) a) (drop (k + 1) b)
  unfolding same
  same_further e =
      rw (drop-cons a k 0 in-a, drop-cons b k 0 in_b, eq-eqb (get_or a k 0) (get_or b k 0) e, add-one k)

  pub same_not : ¬ (get_or a k 0 ≡ get_or b k 0) → same (drop k a) (drop k b) ≡ false
  unfolding same
  same_not h = rw (drop-cons a k 0 in-a, drop-cons b k 0 in_b, ne_eqb (get_or a k 0) (get_or b k 0) h)

pub same_ends : (a b : List ℕ) (k : ℕ) → length a ≤ k → length b ≤ k → same (drop k a) (drop k b) ≡ true
unfolding same
same_ends a b k h g = rw (drop_of_length-le a h, drop_of_length-le b g)

-- One list in another.
module _ (k l : List ℕ) (i j : ℕ) (in-k : i < length k) (in-l : j < length l) where
  pub occurs_both : get_or k i 0 ≡ get_or l j 0 → occurs (drop i k) (drop j l) ≡ occurs (drop (i + 1) k) (drop (j + 1) l)
  unfolding occurs
  occurs_both e =
      rw (drop-cons k i 0 in-k, drop-cons l j 0 in-l, eq-eqb (get_or l j 0) (get_or k i 0) (sym e), occurs, add-one i, add-one j)

  pub occurs_later : ¬ (get_or k i 0 ≡ get_or l j 0) → occurs (drop i k) (drop j l) ≡ occurs (drop i k) (drop (j + 1) l)
  unfolding occurs
  occurs_later h =
      rw (drop-cons k i 0 in-k, drop-cons l j 0 in-l, ne_eqb (get_or l j 0) (get_or k i 0) (λ e. h (sym e)), occurs, add-one j)

nothing_occurs : (l : List ℕ) → occurs [] l ≡ true
unfolding occurs
nothing_occurs [] = refl
nothing_occurs (x ∷ l) = refl

pub occurs_done : (k l : List ℕ) (i : ℕ) → length k ≤ i → occurs (drop i k) l ≡ true
occurs_done k l i h = rw (drop_of_length-le k h) (nothing_occurs l)

pub occurs_short : (k l : List ℕ) (i j : ℕ) → i < length k → length l ≤ j → occurs (drop i k) (drop j l) ≡ false
unfolding occurs
occurs_short k l i j h g = rw (drop-cons k i 0 h, drop_of_length-le l g)
