-- A list gone through from its first rule on: whether all pass a test, and which is the first that fails. Each law says of what is left of the
-- list what one turn needs. Assumes nothing.
use Prim.Native.Nat.{ℕ, suc, ◌+◌, ◌≤◌, ◌<◌}
use native.Mathlib.Numerals.{add-one}
use native.Mathlib.Omega.{arith}
use mathlib.Core.Path.{◌≡◌, refl}
use mathlib.Core.Bool.{Bool, true, false}
use mathlib.Core.List.{List, [], ◌∷◌}
use mathlib.Core.Option.{none, some}
use lib.ListN.{length, drop, get_or, drop_of_length-le}
use lib.Seq.{drop-cons}
use Rattle.policy.specs.Lists.{all}
use Rattle.policy.specs.Judge.{first_failing}
use Rattle.policy.proofs.Tests.{by_test, both_and}

module _ (test : ℕ → Bool) (l : List ℕ) (k : ℕ) (inside : k < length l) where
  pub all_one : test (get_or l k 0) ≡ true → all test (drop k l) ≡ all test (drop (k + 1) l)
  unfolding all
  all_one e = rw (drop-cons l k 0 inside, e, add-one k)

  pub all_not : test (get_or l k 0) ≡ false → all test (drop k l) ≡ false
  unfolding all
  all_not e = rw (drop-cons l k 0 inside, e)

  pub failing_later : test (get_or l k 0) ≡ true → first_failing test (suc k) (drop k l) ≡ first_failing test (suc (k + 1)) (drop (k + 1) l)
  unfolding first_failing
  failing_later e = rw (drop-cons l k 0 inside, e, add-one k)

  pub failing_here : test (get_or l k 0) ≡ false → first_failing test (suc k) (drop k l) ≡ some (k + 1)
  unfolding first_failing
  failing_here e = rw (drop-cons l k 0 inside, e, add-one k)

pub all_none : (test : ℕ → Bool) (l : List ℕ) (k : ℕ) → length l ≤ k → all test (drop k l) ≡ true
unfolding all
all_none test l k h = rw (drop_of_length-le l h)

pub failing_none : (test : ℕ → Bool) (place : ℕ) (l : List ℕ) (k : ℕ) → length l ≤ k → first_failing test place (drop k l) ≡ none
unfolding first_failing
failing_none test place l k h = rw (drop_of_length-le l h)

-- nothing is found only where all pass
pub none_all : (test : ℕ → Bool) (place : ℕ) (l : List ℕ) → first_failing test place l ≡ none → all test l ≡ true
unfolding all first_failing
none_all test place [] e = refl
none_all test place (x ∷ l) e =
    by_test (test x)
    (λ t. both_and t (none_all test (suc place) l (rw t at e)))
    (λ f. let clash : ◌≡◌ {A = ℕ} 0 1 = cc (rw f at e) in absurd (omega arith))
