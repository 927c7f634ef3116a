-- The loop that numbers the rules of a list anew: what is left of the numbering, done on the array so far, gives the same array all the time.
-- The two laws of that loop: one more rule numbered, none left. Assumes nothing.
use Prim.Native.Nat.{ℕ, suc, ◌+◌, ◌≤◌, ◌<◌}
use native.Mathlib.Omega.{arith}
use native.Mathlib.Numerals.{add-one}
use mathlib.Core.Path.{◌≡◌}
use mathlib.Core.List.{List}
use lib.ListN.{length, take, drop, get_or, set, length-take, drop_of_length-le}
use Rattle.places.specs.Places.{renumbered}
use Rattle.running.proofs.Slots.{behind_cons}

module _ (k n : ℕ) (rules places : List ℕ) where
  pub numbers_one : k < n → n ≤ length rules
      → renumbered (suc (k + 1)) (drop (k + 1) (take n rules)) (set places (get_or rules k 0) (k + 1)) ≡ renumbered (suc k) (drop k (take n rules)) places
  unfolding renumbered
  numbers_one h fits = rw (add-one k, behind_cons k n rules h fits)

  pub numbers_none : n ≤ k → renumbered (suc k) (drop k (take n rules)) places ≡ places
  unfolding renumbered
  numbers_none h = rw (drop_of_length-le (take n rules) {i = k} (omega (arith, length-take n rules)))
