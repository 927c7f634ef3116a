-- `==` of two slices is the definitions' test of words. Assumes nothing.
use Prim.Native.Nat.{ℕ}
use mathlib.Core.Bool.{Bool}
use mathlib.Core.Path.{◌≡◌, refl, sym, ◌∙◌, ap}
use mathlib.Core.List.{List, [], ◌∷◌}
use lib.Dec.{eqb}
use Rattle.std.specs.Cmp.Lexicographic.{pointwise}
use Rattle.policy.specs.Lists.{same}

pub same_is : (word other : List ℕ) → pointwise eqb word other ≡ same word other
unfolding same
same_is [] [] = refl
same_is [] (y ∷ other) = refl
same_is (x ∷ word) [] = refl
same_is (x ∷ word) (y ∷ other) = rw (same_is word other)

-- What a test by `==` says of a word and a name, whose bytes the other slice has.
pub tested_as : (word : List ℕ) {other name : List ℕ} {answer : Bool} → other ≡ name → answer ≡ pointwise eqb word other → same word name ≡ answer
tested_as word {name = name} bytes test = sym (same_is word name) ∙ ap (pointwise eqb word) (sym bytes) ∙ sym test
