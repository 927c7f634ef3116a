-- The digits of a number, counted in one after another: what is held of the number stays right with each digit more. Assumes nothing.
use Prim.Native.Nat.{ℕ, suc, ◌+◌, ◌*◌, ◌-◌, ◌≤◌, ◌<◌}
use native.Mathlib.Omega.{arith}
use mathlib.Core.Path.{◌≡◌, refl, ◌∙◌, ap}
use mathlib.Core.Bool.{true, false}
use mathlib.Core.List.{List}
use lib.ListN.{length, drop, get_or, drop_of_length-le}
use lib.Seq.{drop-cons}
use Rattle.numerals.specs.Numerals.{is_digit, goes_on}
use Rattle.numerals.proofs.Numerals.{goes_no_further}
use Rattle.numerals.specs.Found.{most_held, held, Left}

-- what is held of a number is never above it, and below the most that is held it is the number itself
pub held_within : (n : ℕ) → held n ≤ n
unfolding held
held_within n = omega arith

pub held_is : (n : ℕ) → held n < most_held → held n ≡ n
unfolding held
held_is n h = omega arith

pub held_small : (v : ℕ) → v ≤ most_held → v ≡ held v
unfolding held
held_small v h = omega arith

-- a digit more, of what is held of a number
held_more : (v d : ℕ) → held (10 * held v + d) ≡ held (10 * v + d)
unfolding held
held_more v d = omega arith

-- the digits up to a position are counted in: with n before them they make `far`, of which `value` is held
pub record Counts (n at : ℕ) (s : List ℕ) (value end : ℕ) : Type 0 where
  pub far : ℕ
  pub value_is : value ≡ held far
  pub inside : end ≤ length s
  pub same : goes_on n (drop at s) ≡ goes_on far (drop end s)

pub counts_none : (n at : ℕ) (s : List ℕ) → n ≤ most_held → at ≤ length s → Counts n at s n at
counts_none n at s small inside = record { far = n; value_is = held_small n small; inside = inside; same = refl }

pub counts_bound : {n at : ℕ} {s : List ℕ} {value end : ℕ} → Counts n at s value end → value ≤ most_held
unfolding held
counts_bound c = omega (arith, c.value_is)

digit_more : (v : ℕ) (s : List ℕ) (end : ℕ) → end < length s → is_digit (get_or s end 0) ≡ true
    → goes_on v (drop end s) ≡ goes_on (10 * v + (get_or s end 0 - 48)) (drop (end + 1) s)
unfolding goes_on
digit_more v s end inside digit =
    let next : suc end ≡ end + 1 = omega arith in
    rw (drop-cons s end 0 inside, next) (rw (digit, goes_on) refl)

pub counts_more : (n at : ℕ) (s : List ℕ) (value end more : ℕ) → Counts n at s value end → end < length s → is_digit (get_or s end 0) ≡ true
    → more ≡ held (10 * value + (get_or s end 0 - 48)) → Counts n at s more (end + 1)
counts_more n at s value end more c inside digit is =
    let d = get_or s end 0 - 48 in
    record {
      far = 10 * c.far + d;
      value_is = is ∙ ap (λ (v : ℕ). held (10 * v + d)) c.value_is ∙ held_more c.far d;
      inside = omega arith;
      same = c.same ∙ digit_more c.far s end inside digit;
    }

-- they end with the text, or where no digit stands
abbrev pub Counted : ℕ → ℕ → List ℕ → ℕ → ℕ → Type 0
Counted n at s value end = let got = goes_on n (drop at s) in (value ≡ held got.value) × Left s end got.rest

counted_at : (n at : ℕ) (s : List ℕ) (value end : ℕ) (c : Counts n at s value end)
    → goes_on c.far (drop end s) ≡ record { value = c.far; rest = drop end s } → Counted n at s value end
counted_at n at s value end c ends = rw (c.same ∙ ends) (c.value_is, record { inside = c.inside; is = refl })

pub counted_to_end : (n at : ℕ) (s : List ℕ) (value end : ℕ) → Counts n at s value end → length s ≤ end → Counted n at s value end
unfolding goes_on
counted_to_end n at s value end c ends = counted_at n at s value end c (rw (drop_of_length-le s ends) refl)

pub counted_to_other : (n at : ℕ) (s : List ℕ) (value end : ℕ) → Counts n at s value end → end < length s → is_digit (get_or s end 0) ≡ false
    → Counted n at s value end
counted_to_other n at s value end c inside other =
    counted_at n at s value end c (rw (drop-cons s end 0 inside) (goes_no_further c.far (get_or s end 0) (drop (suc end) s) other))
