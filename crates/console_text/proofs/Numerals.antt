-- A number at the front of console text: its digits are read as the number, and what is read as a number is its digits; these are the laws of
-- `numerals`. Assumes nothing.
use Prim.Native.Nat.{ℕ}
use mathlib.Core.Path.{◌≡◌, refl}
use mathlib.Core.Bool.{false}
use mathlib.Core.List.{List, ◌∷◌, ◌++◌}
use Rattle.deployment.specs.Checked.{good}
use Rattle.deployment.proofs.Values.{by_option}
use Rattle.deployment.proofs.FieldValues.{Good}
use Rattle.lines.specs.Text.{decimal}
use Rattle.numerals.specs.Numerals.{Got, is_digit, numeral_read}
use Rattle.numerals.proofs.Numerals.{numeral_read_lem, numeral_is}
use Rattle.console_text.specs.Reading.{number_read}
use Rattle.console_text.proofs.Wording.{good_is}

pub number_read_lem : (n : ℕ) (b : ℕ) (s : List ℕ) → is_digit b ≡ false
    → number_read (decimal n ++ (b ∷ s)) ≡ good (record { value = n; rest = b ∷ s })
unfolding number_read
number_read_lem n b s e = rw (numeral_read_lem n b s e, number_read) refl

abbrev pub IsNumber : List ℕ → Got ℕ → Type 0
IsNumber s got = s ≡ decimal got.value ++ got.rest

pub number_good : (s : List ℕ) → Good (IsNumber s) (number_read s)
unfolding number_read
number_good s =
    by_option (numeral_read s)
    (λ e. rw (e, number_read) tt)
    (λ got e. rw (e, number_read) (numeral_is s got e))

pub number_is : (s : List ℕ) (got : Got ℕ) → number_read s ≡ good got → s ≡ decimal got.value ++ got.rest
number_is s got e = good_is (IsNumber s) e (number_good s)
