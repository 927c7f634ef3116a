-- The numbers of a list on one line: the first, then each behind a blank, then the end of the line; and its head above it. Assumes nothing.
use Prim.Native.Nat.{ℕ, ◌≤◌}
use native.Mathlib.Omega.{arith}
use mathlib.Core.Path.{◌≡◌, refl, sym}
use mathlib.Core.List.{List, [], ◌∷◌, ◌++◌, append_assoc}
use lib.ListN.{length, get_or, drop}
use Rattle.lines.specs.Text.{text, decimal, spaced, spaced_all}
use Rattle.lines.specs.Printing.{Puts}
use Rattle.lines.proofs.Lines.{Lines, following}
use Rattle.showing.specs.Text.{numbers_text, list_text}

-- where none of the numbers behind the first is put
pub none_following : (numbers old : List ℕ) (at : ℕ) → Lines following 0 numbers (spaced_all (drop 1 numbers)) old at old at 1
none_following numbers old at = record { written = []; put = record { stored = λ fits. record { place = refl; end = omega arith } }; left = refl }

pub no_numbers : (numbers place : List ℕ) (at : ℕ) → length numbers ≡ 0 → Puts place at (numbers_text numbers) place at
unfolding numbers_text
no_numbers [] place at none = record { stored = λ fits. record { place = refl; end = omega arith } }
no_numbers (n ∷ numbers) place at none = absurd (omega arith)

pub numbers_line : (numbers : List ℕ) → 1 ≤ length numbers
    → decimal (get_or numbers 0 0) ++ (spaced_all (drop 1 numbers) ++ text "\n") ≡ numbers_text numbers
unfolding numbers_text
numbers_line [] some = absurd (omega arith)
numbers_line (n ∷ numbers) some = refl

-- A list behind a word: its head, the end of the head's line and the numbers.
pub list_behind : (word numbers : List ℕ) → word ++ list_text numbers ≡ (word ++ spaced (length numbers)) ++ (text "\n" ++ numbers_text numbers)
unfolding list_text
list_behind word numbers = sym (append_assoc word (spaced (length numbers)) (text "\n" ++ numbers_text numbers))
