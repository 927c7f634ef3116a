-- Decimal digits: a number of one digit, one digit more behind those of the tenth part, and how many there are. The idea: the bound in
-- `digits` does not matter once it is above the number. Assumes nothing.
use Rattle.std.proofs.Common.{◌≡◌, ℕ, zero, suc, ◌+◌, ◌/◌, ◌%◌, ◌^◌, ◌<◌, ◌≤◌, ltb, List, [], ◌∷◌, ◌++◌, length, ap, arith, length-append, ltb-false, ltb-true, le-ltb, lt-ltb}
use native.Mathlib.Nat.{pow-succ'}
use Rattle.policy.proofs.Tests.{by_test}
use Rattle.lines.specs.Text.{digits, decimal}

same_digits : (a b n : ℕ) → n < a → n < b → digits a n ≡ digits b n
unfolding digits
same_digits zero b n h g = absurd (omega arith)
same_digits (suc a) zero n h g = absurd (omega arith)
same_digits (suc a) (suc b) n h g =
    by_test (ltb n 10) (λ t. rw (t, digits))
    (λ f.
    let more : 10 ≤ n = ltb-false n 10 f in
    rw (f, digits) (ap (λ (l : List ℕ). l ++ ((48 + n % 10) ∷ [])) (same_digits a b (n / 10) (omega arith) (omega arith))))

pub decimal_one : (n : ℕ) → n < 10 → decimal n ≡ (48 + n) ∷ []
unfolding decimal digits
decimal_one n h = rw (lt-ltb n 10 h, digits)

pub decimal_more : (n : ℕ) → 10 ≤ n → decimal n ≡ decimal (n / 10) ++ ((48 + n % 10) ∷ [])
unfolding decimal digits
decimal_more n h =
    rw (le-ltb n 10 h, digits)
    (ap (λ (l : List ℕ). l ++ ((48 + n % 10) ∷ [])) (same_digits n (suc (n / 10)) (n / 10) (omega arith) (omega arith)))

pub length_decimal : (k n : ℕ) → n < 10 ^ suc k → length (decimal n) ≤ suc k
length_decimal zero n h = rw (decimal_one n h) (omega arith)
length_decimal (suc k) n h =
    by_test (ltb n 10)
    (λ t. rw (decimal_one n (ltb-true n 10 t)) (omega arith))
    (λ f.
    let less : n / 10 < 10 ^ suc k = omega (arith, pow-succ' 10 (suc k)) in
    rw (decimal_more n (ltb-false n 10 f), length-append)
    (omega (arith, length_decimal k (n / 10) less)))
