-- A number in its bounds, by what is held of it: within bounds up to 65,535 that is the number itself. Assumes nothing.
use Prim.Native.Nat.{ℕ, ◌≤◌, ◌<◌}
use native.Mathlib.Omega.{arith}
use mathlib.Core.Path.{◌≡◌, refl, ap}
use mathlib.Core.Logic.{◌⊎◌, ⊎_elim}
use mathlib.Core.Bool.{false, ◌&&◌}
use mathlib.Core.Option.{Option, none, some}
use mathlib.Core.List.{List}
use lib.Dec.{leb}
use borrow.Author.Tests.{leb-true, le-leb}
use Rattle.policy.proofs.Tests.{falsely, and_both}
use Rattle.deployment.specs.Checked.{Checked, good, bad}
use Rattle.deployment.specs.declared.Why.{Why}
use Rattle.deployment.specs.declared.Why.TheVariants.{NotRead}
use Rattle.numerals.specs.Numerals.{number_of}
use Rattle.numerals.specs.Found.{held, whole_held}
use Rattle.std.specs.Prelude.{Some, None}
use Rattle.iptables.specs.Words.{number_in}
use Rattle.iptables_words.specs.Told.{number_told}

-- What is told of a number, or of none.
held_is : (number : Option ℕ) (n : ℕ) → Some n ≡ whole_held number → (k : ℕ) × (number ≡ some k) × (n ≡ held k)
unfolding whole_held
held_is (some k) n e = (k, refl, cc)
held_is none n e = absurd (let z : ◌≡◌ {A = ℕ} 0 1 = cc in omega arith)

held_not : (number : Option ℕ) → None ≡ whole_held number → number ≡ none
unfolding whole_held
held_not (some k) e = absurd (let z : ◌≡◌ {A = ℕ} 0 1 = cc in omega arith)
held_not none e = refl

-- The bounds.
module _ (word : List ℕ) (low high : ℕ) where
  within : (k : ℕ) → number_of word ≡ some k → low ≤ k → k ≤ high → number_in low high word ≡ good k
  unfolding number_in
  within k is above below = rw (is, number_in) (rw (le-leb low k above, le-leb k high below) refl)

  without : (k : ℕ) → number_of word ≡ some k → (low ≤ k → k ≤ high → ⊥) → number_in low high word ≡ bad NotRead
  unfolding number_in
  without k is not =
      let both : (leb low k && leb k high) ≡ false =
      falsely (λ t. let pass = and_both (leb low k) (leb k high) t in not (leb-true low k pass.0) (leb-true k high pass.1)) in
      rw (is, number_in) (rw both refl)

  pub no_number : None ≡ whole_held (number_of word) → None ≡ number_told (number_in low high word)
  unfolding number_told number_in
  no_number told = rw (held_not (number_of word) told, number_in) refl

  -- n is held of the number that the word is
  module _ (n : ℕ) (small : high ≤ 65535) (told : Some n ≡ whole_held (number_of word)) where
    pub out_of_bounds : (n < low) ⊎ (high < n) → None ≡ number_told (number_in low high word)
    unfolding number_told held
    out_of_bounds off =
        let (k, is, e) = held_is (number_of word) n told in
        rw (without k is (λ above below. ⊎_elim (λ h. omega arith) (λ h. omega arith) off)) refl

    pub in_bounds_lem : low ≤ n → n ≤ high → Some n ≡ number_told (number_in low high word)
    unfolding number_told held
    in_bounds_lem above below =
        let (k, is, e) = held_is (number_of word) n told in
        let same : n ≡ k = omega arith in
        rw (within k is (omega arith) (omega arith)) (ap Some same)

-- What is told of a number in its bounds.
pub told_is : (read : Checked ℕ) (n : ℕ) → Some n ≡ number_told read → read ≡ good n
unfolding number_told
told_is (good k) n e = let same : k ≡ n = cc in ap good same
told_is (bad why) n e = absurd (let z : ◌≡◌ {A = ℕ} 0 1 = cc in omega arith)

pub told_not : (read : Checked ℕ) → None ≡ number_told read → (why : Why) × (read ≡ bad why)
unfolding number_told
told_not (good k) e = absurd (let z : ◌≡◌ {A = ℕ} 0 1 = cc in omega arith)
told_not (bad why) e = (why, refl)
