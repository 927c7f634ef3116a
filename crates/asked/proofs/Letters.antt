-- The test of slices is the definitions' test of words. Assumes nothing.
use Prim.Native.Nat.{ℕ}
use mathlib.Core.Path.{◌≡◌, refl}
use mathlib.Core.List.{List, [], ◌∷◌}
use lib.Dec.{eqb}
use Rattle.std.specs.Cmp.Lexicographic.{pointwise}
use Rattle.policy.specs.Lists.{same}

pub same_is : (w v : List ℕ) → pointwise eqb w v ≡ same w v
unfolding same
same_is [] [] = refl
same_is [] (y ∷ v) = refl
same_is (x ∷ w) [] = refl
same_is (x ∷ w) (y ∷ v) = rw (same_is w v)
